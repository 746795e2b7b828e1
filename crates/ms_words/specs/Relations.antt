-- Relations between words (JVMS SE 8, section 6.5, if_icmp, and the comparison of an index).
use Rattle.std.specs.Prelude.{ℤ, pos, negsuc, Bool, true, false, not, int_lt, nat_le, ◌==◌}
use Rattle.ms_words.specs.declared.operator.Rel.{Rel}
use Rattle.ms_words.specs.declared.operator.Rel.TheVariants.{Eq, Ne, Lt, Ge, Gt, Le, Uge}

-- whether two ints are equal
abbrev pub int_eq : ℤ → ℤ → Bool
int_eq (pos a) (pos b) = a == b
int_eq (negsuc a) (negsuc b) = a == b
int_eq (pos a) (negsuc b) = false
int_eq (negsuc a) (pos b) = false

-- not below, as unsigned words: every negative word is above every one that isn't
abbrev pub unsigned_ge : ℤ → ℤ → Bool
unsigned_ge (pos a) (pos b) = nat_le b a
unsigned_ge (negsuc a) (pos b) = true
unsigned_ge (pos a) (negsuc b) = false
unsigned_ge (negsuc a) (negsuc b) = nat_le a b

-- whether the relation holds between two words
abbrev pub related : Rel → ℤ → ℤ → Bool
related Eq a b = int_eq a b
related Ne a b = not (int_eq a b)
related Lt a b = int_lt a b
related Ge a b = not (int_lt a b)
related Gt a b = int_lt b a
related Le a b = not (int_lt b a)
related Uge a b = unsigned_ge a b
