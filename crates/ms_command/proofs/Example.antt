-- The texts of a few ends and replies, computed.
use Rattle.std.specs.Prelude.{◌≡◌, List, ℕ, [], ◌∷◌, ◌++◌, negsuc, codes, refl}
use Rattle.std.specs.Fmt.{digits}
use Rattle.ms_words.specs.declared.end.Ended.TheVariants.{Returned, ReturnedVoid, Threw, InitFailed, Missing, Runaway, Deep, SymLength, HeapFull}
use Rattle.ms_words.specs.declared.end.PathEnd.TheVariants.{Ended, Cut}
use Rattle.ms_words.specs.declared.thrown.Thrown.TheVariants.{ArrayIndexOutOfBounds}
use Rattle.ms_command.specs.declared.reply.Reply.TheVariants.{VerifyFault, Words}
use Rattle.ms_command.specs.Endings.{end_text}
use Rattle.ms_command.specs.Texts.{line_end, reply_text}

-- the names of two classes; the byte of the second is a backslash
abbrev names : List (List ℕ)
names = codes "T" ∷ (92 ∷ []) ∷ []

returns_word : end_text names (Ended (Returned (negsuc 2_147_483_647))) ≡ codes "returns -2147483648"
unfolding digits
returns_word = refl

returns_void : end_text names (Ended ReturnedVoid) ≡ codes "returns void"
returns_void = refl

throws : end_text names (Ended (Threw ArrayIndexOutOfBounds)) ≡ codes "throws java/lang/ArrayIndexOutOfBoundsException"
throws = refl

fails_first : end_text names (Ended (InitFailed 0)) ≡ codes "initfailed T"
fails_first = refl

fails_second : end_text names (Ended (InitFailed 1)) ≡ codes "initfailed " ++ (92 ∷ []) ++ codes "x5c"
fails_second = refl

misses : end_text names (Ended (Missing (codes "B.f(I)" ++ 10 ∷ []))) ≡ codes "missing B.f(I)" ++ (92 ∷ []) ++ codes "x0a"
misses = refl

limits : (end_text names (Ended Runaway) ≡ codes "runaway") × (end_text names (Ended Deep) ≡ codes "deep")
    × (end_text names (Ended SymLength) ≡ codes "symlength") × (end_text names (Ended HeapFull) ≡ codes "heapfull") × (end_text names Cut ≡ codes "cut")
limits = (refl, refl, refl, refl, refl)

verify_fault : reply_text (VerifyFault (codes "FallOff") (codes "f(I)I") 0) ≡ codes "refused 6 Verify FallOff f(I)I 0" ++ line_end
unfolding digits
verify_fault = refl

words : reply_text Words ≡ codes "refused 16 Words" ++ line_end
words = refl
