-- The definitions computed on a method of two truth values.
use Rattle.std.proofs.Common.{◌≡◌, [], ◌∷◌, pos, None, codes, refl}
use Rattle.ms_words.specs.declared.end.Ended.TheVariants as ended
use Rattle.ms_words.specs.declared.end.PathEnd.TheVariants as path_end
use Rattle.ms_words.specs.declared.kind.Kind.TheVariants.{Z, I}
use Rattle.ms_classfile.specs.declared.instruction.Condition.TheVariants.{Eq, Ne}
use Rattle.ms_classfile.specs.declared.instruction.Instruction.TheVariants.{IloadN, Iconst, If, Ireturn}
use Rattle.ms_classfile.specs.ThinFile.{Method}
use Rattle.ms_trie.specs.declared.row.Outcome.TheVariants.{Path}
use Rattle.ms_machine.specs.Segments.{most_instructions}
use Rattle.ms_machine.specs.Control.{Program}
use Rattle.ms_jvm.specs.Programs.{program_of}
use Rattle.ms_session.specs.Paths.{inputs_of, report, tree, tree_from, words_of}
use Rattle.ms_session.specs.Known.{explore, first_needing, nothing_known}

-- 0 iload_0, 1 ifeq 6, 4 iconst_1, 5 ireturn, 6 iload_1, 7 ifne 12, 10 iconst_2, 11 ireturn, 12 iconst_0, 13 ireturn
abbrev method : Method
method = record {
  class = codes "T";
  name = codes "f";
  descriptor = codes "(ZZ)I";
  kinds = Z ∷ Z ∷ [];
  result = I;
  max_stack = 1;
  instructions = IloadN 0 ∷ If Eq 5 ∷ Iconst (pos 1) ∷ Ireturn ∷ IloadN 1 ∷ If Ne 5 ∷ Iconst (pos 2) ∷ Ireturn ∷ Iconst (pos 0) ∷ Ireturn ∷ [];
}

abbrev P : Program
P = program_of method

all_inputs : inputs_of (Z ∷ Z ∷ []) ≡ (pos 0 ∷ pos 0 ∷ []) ∷ (pos 0 ∷ pos 1 ∷ []) ∷ (pos 1 ∷ pos 0 ∷ []) ∷ (pos 1 ∷ pos 1 ∷ []) ∷ []
unfolding words_of
all_inputs = refl

tree_2 : tree P 2 ≡ [] ∷ (0 ∷ []) ∷ (1 ∷ []) ∷ (1 ∷ 0 ∷ []) ∷ (1 ∷ 1 ∷ []) ∷ []
unfolding words_of tree_from most_instructions
tree_2 = refl

report_1 : report P 1 ≡ record { choices = 0 ∷ []; outcome = Path (record { kinds = Z ∷ Z ∷ []; words = pos 1 ∷ pos 0 ∷ [] }) (path_end.Ended (ended.Returned (pos 1))) }
    ∷ record { choices = 1 ∷ []; outcome = Path (record { kinds = Z ∷ Z ∷ []; words = pos 0 ∷ pos 0 ∷ [] }) path_end.Cut } ∷ []
unfolding words_of tree_from most_instructions
report_1 = refl

report_2 : report P 2 ≡ record { choices = 0 ∷ []; outcome = Path (record { kinds = Z ∷ Z ∷ []; words = pos 1 ∷ pos 0 ∷ [] }) (path_end.Ended (ended.Returned (pos 1))) }
    ∷ record { choices = 1 ∷ 0 ∷ []; outcome = Path (record { kinds = Z ∷ Z ∷ []; words = pos 0 ∷ pos 0 ∷ [] }) (path_end.Ended (ended.Returned (pos 2))) }
    ∷ record { choices = 1 ∷ 1 ∷ []; outcome = Path (record { kinds = Z ∷ Z ∷ []; words = pos 0 ∷ pos 1 ∷ [] }) (path_end.Ended (ended.Returned (pos 0))) } ∷ []
unfolding words_of tree_from most_instructions
report_2 = refl

asks_10 : (explore P 2 10 nothing_known).asks ≡ 2
unfolding words_of tree_from most_instructions explore
asks_10 = refl

settled_10 : (explore P 2 10 nothing_known).settled ≡ 5
unfolding words_of tree_from most_instructions explore
settled_10 = refl

-- in pieces: the third string is settled by inheritance
asks_3 : (explore P 2 3 nothing_known).asks ≡ 1
unfolding words_of tree_from most_instructions explore
asks_3 = refl

-- a deeper exploration after a shallower one asks nothing for what is known
deeper : (explore P 2 10 (explore P 1 10 nothing_known).known).asks ≡ 1
unfolding words_of tree_from most_instructions explore
deeper = refl

deeper_settled : (explore P 2 10 (explore P 1 10 nothing_known).known).settled ≡ 2
unfolding words_of tree_from most_instructions explore
deeper_settled = refl

finished : first_needing P 1 (explore P 2 10 nothing_known).known ≡ None
unfolding words_of tree_from most_instructions explore
finished = refl
