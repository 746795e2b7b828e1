-- The definitions computed: lines, and the replies to a conversation.
use Rattle.std.proofs.Common.{◌≡◌, ℕ, List, None, [], ◌∷◌, ◌++◌, refl, codes, replicate}
use Rattle.std.specs.Int.{int_wrap}
use Rattle.std.specs.Fmt.{digits}
use Rattle.std.specs.Str.Lines.{lines}
use Rattle.ms_outside.specs.Shelves.{File}
use Rattle.ms_classfile.specs.Reading.{thin_method, repeated, text_at, class_at, entry_at, pool_at, attribute_at, attributes_at, load_at, push_at, offset_at, branch_at, operand_at, instruction_at, instructions_at, limits_at, rest_is_plain, code_of, method_at, header_at, class_part_at, counts_at}
use Rattle.ms_pool.specs.PoolReading as pool_read
use Rattle.ms_classfile.specs.ClassFile.{class_file, header, class_and_super, interface, pool, indexed, attribute, passed, method, method_attribute, code_attribute, code, head}
use Rattle.ms_code.specs.Codes.{decoded, step}
use Rattle.ms_code.specs.Instructions.{instruction, behind, operand, s2}
use Rattle.ms_code.specs.Opcodes.{form_of}
use Rattle.ms_program.specs.Reading.{file_read, first_fault}
use Rattle.ms_machine.specs.Segments.{most_instructions}
use Rattle.ms_linking.specs.Groups.{group_of}
use Rattle.ms_verify.specs.Faults.{fault_of, fault_of_method}
use Rattle.ms_memoise.specs.Lines.{whole_lines}
use Rattle.ms_session.specs.Paths.{tree_from, words_of}
use Rattle.ms_session.specs.Known.{explore}
use Rattle.ms_session.specs.Once.{once_end}
use Rattle.ms_memoise.specs.Events.{replies, up_to_quit}

-- a carriage return goes before a line feed alone, and the last line counts where it isn't empty
some_lines : lines (97 ∷ 13 ∷ 10 ∷ 10 ∷ 13 ∷ 98 ∷ 13 ∷ []) ≡ (97 ∷ []) ∷ [] ∷ (13 ∷ 98 ∷ 13 ∷ []) ∷ []
some_lines = refl

some_whole_lines : whole_lines (97 ∷ 13 ∷ 10 ∷ 10 ∷ 13 ∷ 98 ∷ 13 ∷ []) ≡ (97 ∷ []) ∷ [] ∷ []
some_whole_lines = refl

-- a class T whose method f(II)I adds its parameters
abbrev file : List ℕ
file = 202 ∷ 254 ∷ 186 ∷ 190 ∷ 0 ∷ 0 ∷ 0 ∷ 52 ∷ 0 ∷ 8 ∷ 1 ∷ 0 ∷ 1 ∷ 84 ∷ 7 ∷ 0 ∷ 1 ∷ 1 ∷ 0 ∷ 16 ∷ 106 ∷ 97 ∷ 118 ∷ 97 ∷ 47 ∷ 108 ∷ 97 ∷ 110 ∷ 103 ∷ 47 ∷ 79 ∷ 98 ∷ 106 ∷ 101 ∷ 99 ∷ 116 ∷ 7 ∷ 0 ∷ 3 ∷ 1 ∷ 0 ∷ 1 ∷ 102 ∷ 1 ∷ 0 ∷ 5 ∷ 40 ∷ 73 ∷ 73 ∷ 41 ∷ 73 ∷ 1 ∷ 0 ∷ 4 ∷ 67 ∷ 111 ∷ 100 ∷ 101 ∷ 0 ∷ 33 ∷ 0 ∷ 2 ∷ 0 ∷ 4 ∷ 0 ∷ 0 ∷ 0 ∷ 0 ∷ 0 ∷ 1 ∷ 0 ∷ 9 ∷ 0 ∷ 5 ∷ 0 ∷ 6 ∷ 0 ∷ 1 ∷ 0 ∷ 7 ∷ 0 ∷ 0 ∷ 0 ∷ 16 ∷ 0 ∷ 2 ∷ 0 ∷ 2 ∷ 0 ∷ 0 ∷ 0 ∷ 4 ∷ 26 ∷ 27 ∷ 96 ∷ 172 ∷ 0 ∷ 0 ∷ 0 ∷ 0 ∷ 0 ∷ 0 ∷ []

-- A class T whose method f(ZZ)I branches: 1 where the first parameter is true, and else 2 where the
-- second is false, and else 0.
abbrev branching : List ℕ
branching = 202 ∷ 254 ∷ 186 ∷ 190 ∷ 0 ∷ 0 ∷ 0 ∷ 52 ∷ 0 ∷ 8 ∷ 1 ∷ 0 ∷ 1 ∷ 84 ∷ 7 ∷ 0 ∷ 1 ∷ 1 ∷ 0 ∷ 16 ∷ 106 ∷ 97 ∷ 118 ∷ 97 ∷ 47 ∷ 108 ∷ 97 ∷ 110 ∷ 103 ∷ 47 ∷ 79 ∷ 98 ∷ 106 ∷ 101 ∷ 99 ∷ 116 ∷ 7 ∷ 0 ∷ 3 ∷ 1 ∷ 0 ∷ 1 ∷ 102 ∷ 1 ∷ 0 ∷ 5 ∷ 40 ∷ 90 ∷ 90 ∷ 41 ∷ 73 ∷ 1 ∷ 0 ∷ 4 ∷ 67 ∷ 111 ∷ 100 ∷ 101 ∷ 0 ∷ 33 ∷ 0 ∷ 2 ∷ 0 ∷ 4 ∷ 0 ∷ 0 ∷ 0 ∷ 0 ∷ 0 ∷ 1 ∷ 0 ∷ 9 ∷ 0 ∷ 5 ∷ 0 ∷ 6 ∷ 0 ∷ 1 ∷ 0 ∷ 7 ∷ 0 ∷ 0 ∷ 0 ∷ 26 ∷ 0 ∷ 2 ∷ 0 ∷ 2 ∷ 0 ∷ 0 ∷ 0 ∷ 14 ∷ 26 ∷ 153 ∷ 0 ∷ 5 ∷ 4 ∷ 172 ∷ 27 ∷ 154 ∷ 0 ∷ 5 ∷ 5 ∷ 172 ∷ 3 ∷ 172 ∷ 0 ∷ 0 ∷ 0 ∷ 0 ∷ 0 ∷ 0 ∷ []

-- neither file has a fault
no_fault : first_fault file ≡ None
unfolding first_fault file_read class_file header class_and_super interface pool pool_read.pool_at pool_read.entries_at pool_read.entry_at pool_read.behind_tag pool_read.text_at pool_read.one_at indexed attribute passed method method_attribute code_attribute code head decoded step instruction behind operand form_of s2
no_fault = refl

no_branching_fault : first_fault branching ≡ None
unfolding first_fault file_read class_file header class_and_super interface pool pool_read.pool_at pool_read.entries_at pool_read.entry_at pool_read.behind_tag pool_read.text_at pool_read.one_at indexed attribute passed method method_attribute code_attribute code head decoded step instruction behind operand form_of s2
no_branching_fault = refl

abbrev shelf : List File
shelf = record { name = codes "T.class"; bytes = file } ∷ record { name = codes "B.class"; bytes = branching } ∷ []

abbrev input : List ℕ
input = codes "once T.class f (II)I 2147483647 1" ++ 10 ∷ codes "once T.class f (II)I -1 1" ++ 10 ∷ codes "once T.class f (II)I 1" ++ 10 ∷ codes "once U.class f (II)I 1 1" ++ 10 ∷ codes "once T.class f (II)I 2147483648 1" ++ 10 ∷ 127 ∷ 10 ∷ codes "twice"

some_replies : replies shelf input ≡ codes "ok returns -2147483648" ++ 10 ∷ codes "ok returns 0" ++ 10 ∷ codes "refused 16 Words" ++ 10 ∷ codes "refused 3 Absent U.class" ++ 10 ∷ codes "refused 13 Range" ++ 10 ∷ codes "refused 1 Line" ++ 10 ∷ codes "refused 2 Command" ++ 10 ∷ []
unfolding int_wrap digits first_fault file_read class_file header class_and_super interface pool pool_read.pool_at pool_read.entries_at pool_read.entry_at pool_read.behind_tag pool_read.text_at pool_read.one_at indexed attribute passed method method_attribute code_attribute code head decoded step instruction behind operand form_of s2 group_of fault_of fault_of_method most_instructions once_end
some_replies = refl

-- a line of 4,097 bytes
long_reply : replies [] (replicate 4097 32) ≡ codes "refused 1 Line" ++ 10 ∷ []
long_reply = refl

abbrev branches : List ℕ
branches = codes "once B.class f (ZZ)I 0 1" ++ 10 ∷ codes "once B.class f (ZZ)I 0 0" ++ 10 ∷ codes "once B.class f (ZZ)I 1 0" ++ 10 ∷ codes "once B.class f (ZZ)I 2 0"

branched_replies : replies shelf branches ≡ codes "ok returns 0" ++ 10 ∷ codes "ok returns 2" ++ 10 ∷ codes "ok returns 1" ++ 10 ∷ codes "refused 16 Words" ++ 10 ∷ []
unfolding int_wrap digits first_fault file_read class_file header class_and_super interface pool pool_read.pool_at pool_read.entries_at pool_read.entry_at pool_read.behind_tag pool_read.text_at pool_read.one_at indexed attribute passed method method_attribute code_attribute code head decoded step instruction behind operand form_of s2 group_of fault_of fault_of_method most_instructions once_end
branched_replies = refl

-- a quit is a line whose only token is the word
some_up_to_quit : up_to_quit (codes "quit now" ∷ codes " quit " ∷ codes "report" ∷ []) ≡ codes "quit now" ∷ codes " quit " ∷ []
some_up_to_quit = refl

-- a session over a file: its class, its entry, all of its paths; and then the paths at a lesser depth, which need
-- no asks; a line behind the quit is not done
abbrev session : List ℕ
session = codes "class B.class" ++ 10 ∷ codes "entry T f (ZZ)I" ++ 10 ∷ codes "depth 2" ++ 10 ∷ codes "explore 10" ++ 10 ∷ codes "report" ++ 10 ∷ codes "depth 1" ++ 10 ∷ codes "report" ++ 10 ∷ codes "quit" ++ 10 ∷ codes "once"

session_replies : replies shelf session ≡ codes "ok class T verdicts 0 segments 0" ++ 10 ∷ codes "ok entry T.f(ZZ)I" ++ 10 ∷ codes "ok depth 2" ++ 10 ∷ codes "ok explored 5 asks 2 finished" ++ 10 ∷ codes "path 0 input 1,0 returns 1" ++ 10 ∷ codes "path 1.0 input 0,0 returns 2" ++ 10 ∷ codes "path 1.1 input 0,1 returns 0" ++ 10 ∷ codes "ok report paths 3 undecided 0" ++ 10 ∷ codes "ok depth 1" ++ 10 ∷ codes "path 0 input 1,0 returns 1" ++ 10 ∷ codes "path 1 input 0,0 cut" ++ 10 ∷ codes "ok report paths 2 undecided 0" ++ 10 ∷ codes "ok quit" ++ 10 ∷ []
unfolding int_wrap digits thin_method repeated text_at class_at entry_at pool_at attribute_at attributes_at load_at push_at offset_at branch_at operand_at instruction_at instructions_at limits_at rest_is_plain code_of method_at header_at class_part_at counts_at most_instructions once_end words_of tree_from explore
session_replies = rw no_branching_fault refl
