-- Two texts written one after the other.
use Rattle.std.proofs.Common.{◌≡◌, ℕ, zero, suc, ◌+◌, ◌<◌, ◌≤◌, List, [], ◌∷◌, ◌++◌, length, take, Option, refl, sym, ap, subst, ◌∙◌, arith}
use Rattle.std.specs.Io.KnownBytes.{Appends}
use Rattle.std.proofs.KnownBytes.{Appends-trans}
use Rattle.std.proofs.lemmas.List.{length-append, take-append-le}
use Rattle.std.proofs.Math.Seq.{take-append-add}
use Rattle.ms_outside.specs.Sinks.{TakesPart}
use Rattle.ms_command.specs.declared.reply.Reply.{Reply}
use Rattle.ms_command.specs.declared.reply.Reply.TheVariants.{Ran, ClassAdded, EntrySet, DepthSet, Explored, Reported, Unfinished, Quitting, NoLine, NoCommand, Absent, TooLong, ClassFault, VerifyFault, Known, Unknown, NoEntry, EntryMissing, Range, Words, NotBuilt}
use Rattle.ms_command.specs.Texts.{reply_text}
use Rattle.ms_session.specs.declared.stop.Stop.{Stop}
use Rattle.ms_session.specs.declared.stop.Stop.TheVariants as stops
use Rattle.ms_session.specs.Writing.{HasText, WriteCause, WriteStops}

pub take_of_take : (n : ℕ) (xs : List ℕ) → take (length (take n xs)) xs ≡ take n xs
take_of_take zero xs = refl
take_of_take (suc n) [] = refl
take_of_take (suc n) (x ∷ xs) = ap (λ l. x ∷ l) (take_of_take n xs)

pub short_take : (n : ℕ) (xs : List ℕ) → length (take n xs) ≤ length xs
short_take zero xs = omega arith
short_take (suc n) [] = omega arith
short_take (suc n) (x ∷ xs) = omega (arith, short_take n xs)

-- some first bytes of a text are some of one that goes on
pub part_before : (a b : Option (List ℕ)) (xs ys : List ℕ) → TakesPart a b xs → TakesPart a b (xs ++ ys)
part_before a b xs ys part =
    let same : take (length (take part.0 xs)) (xs ++ ys) ≡ take part.0 xs = take-append-le (length (take part.0 xs)) xs ys (short_take part.0 xs) ∙ take_of_take part.0 xs in
    (length (take part.0 xs), subst (Appends a b) (sym same) part.1)

-- a whole text, and some first bytes of the one behind it
pub part_behind : (a b c : Option (List ℕ)) (xs ys : List ℕ) → Appends a b xs → TakesPart b c ys → TakesPart a c (xs ++ ys)
part_behind a b c xs ys whole part = (length xs + part.0, subst (Appends a c) (sym (take-append-add xs ys part.0)) (Appends-trans a b c xs (take part.0 ys) whole part.1))

cause_later : (stop : Stop) (before between now : ℕ) → between ≡ before → WriteCause stop between now → WriteCause stop before now
cause_later stop before between now same cause = subst (λ (n : ℕ). WriteCause stop n now) same cause

text_later : (stop : Stop) (xs ys text : List ℕ) → text ≡ xs ++ ys → HasText stop ys → HasText stop text
text_later stops.ShelfFault xs ys text is some = tt
text_later stops.WriteFault xs ys text is some = omega (arith, some, ap length is, length-append xs ys)
text_later stops.NoMemory xs ys text is some = tt

-- each reply has a text
pub reply_has_text : (reply : Reply) → 0 < length (reply_text reply)
reply_has_text (Ran end) = omega arith
reply_has_text (ClassAdded class verdicts segments) = omega arith
reply_has_text (EntrySet entry) = omega arith
reply_has_text (DepthSet depth) = omega arith
reply_has_text (Explored settled asks how) = omega arith
reply_has_text (Reported paths undecided) = omega arith
reply_has_text Unfinished = omega arith
reply_has_text Quitting = omega arith
reply_has_text NoLine = omega arith
reply_has_text NoCommand = omega arith
reply_has_text (Absent file) = omega arith
reply_has_text (TooLong file) = omega arith
reply_has_text (ClassFault kind at) = omega arith
reply_has_text (VerifyFault kind method offset) = omega arith
reply_has_text (Known class) = omega arith
reply_has_text (Unknown class) = omega arith
reply_has_text NoEntry = omega arith
reply_has_text EntryMissing = omega arith
reply_has_text Range = omega arith
reply_has_text Words = omega arith
reply_has_text NotBuilt = omega arith

pub stops_behind : (stop : Stop) (xs ys text : List ℕ) (a b c : Option (List ℕ)) (before between now : ℕ) → text ≡ xs ++ ys → Appends a b xs → between ≡ before → WriteStops stop ys b c between now → WriteStops stop text a c before now
stops_behind stop xs ys text a b c before between now is whole steady stops = record {
  part = subst (TakesPart a c) (sym is) (part_behind a b c xs ys whole stops.part);
  cause = cause_later stop before between now steady stops.cause;
  some = text_later stop xs ys text is stops.some;
  grows = omega (arith, steady, stops.grows);
}

pub wrote_both : (xs ys text : List ℕ) (a b c : Option (List ℕ)) → text ≡ xs ++ ys → Appends a b xs → Appends b c ys → Appends a c text
wrote_both xs ys text a b c is first second = subst (Appends a c) (sym is) (Appends-trans a b c xs ys first second)
