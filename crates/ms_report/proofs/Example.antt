-- The text of a few rows, computed.
use Rattle.std.specs.Prelude.{◌≡◌, [], ◌∷◌, ◌++◌, pos, negsuc, codes, refl}
use Rattle.std.specs.Fmt.{digits}
use Rattle.ms_words.specs.declared.kind.Kind.TheVariants.{I, Z}
use Rattle.ms_words.specs.declared.end.Ended.TheVariants.{Returned}
use Rattle.ms_words.specs.declared.end.PathEnd.TheVariants.{Ended, Cut}
use Rattle.ms_trie.specs.declared.row.Outcome.TheVariants.{Undecided, Path}
use Rattle.ms_command.specs.Texts.{line_end}
use Rattle.ms_report.specs.Rows.{line_of, row_text, rows_text}
use Rattle.ms_report.specs.Stops.{totals_of}

one_arm : line_of [] (0 ∷ []) (Path (record { kinds = I ∷ Z ∷ []; words = pos 1 ∷ pos 0 ∷ [] }) (Ended (Returned (pos 1)))) ≡ codes "path 0 input 1,0 returns 1" ++ line_end
unfolding digits
one_arm = refl

no_arm : line_of [] [] (Path (record { kinds = []; words = [] }) (Ended (Returned (pos 7)))) ≡ codes "path - input - returns 7" ++ line_end
unfolding digits
no_arm = refl

three_arms : line_of [] (1 ∷ 0 ∷ 1 ∷ []) (Path (record { kinds = I ∷ []; words = negsuc 2_147_483_647 ∷ [] }) Cut) ≡ codes "path 1.0.1 input -2147483648 cut" ++ line_end
unfolding digits
three_arms = refl

given_up : row_text [] (record { choices = 1 ∷ 1 ∷ []; outcome = Undecided }) ≡ codes "undecided 1.1" ++ line_end
unfolding digits
given_up = refl

-- two rows, one of each sort
both : rows_text [] (record { choices = 0 ∷ []; outcome = Undecided } ∷ record { choices = 12 ∷ []; outcome = Path (record { kinds = []; words = [] }) Cut } ∷ [])
    ≡ codes "undecided 0" ++ line_end ++ codes "path 12 input - cut" ++ line_end
unfolding digits
both = refl

counted : totals_of (record { choices = 0 ∷ []; outcome = Undecided } ∷ record { choices = 12 ∷ []; outcome = Path (record { kinds = []; words = [] }) Cut } ∷ record { choices = 13 ∷ []; outcome = Undecided } ∷ [])
    ≡ record { paths = 1; undecided = 2 }
counted = refl
