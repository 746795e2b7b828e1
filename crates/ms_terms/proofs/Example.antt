-- The definitions computed.
use Rattle.std.proofs.Common.{◌≡◌, [], ◌∷◌, pos, negsuc, false, refl}
use Rattle.std.specs.Int.{int_wrap}
use Rattle.ms_words.specs.declared.kind.Kind.TheVariants.{I}
use Rattle.ms_words.specs.declared.operator.Un.TheVariants.{Neg}
use Rattle.ms_words.specs.declared.operator.Bin.TheVariants.{Add, Sub}
use Rattle.ms_terms.specs.Terms.{Constant, Param, Unary, Binary, unary, binary, is_constant, value}

-- constants fold, and wrap
folded : binary Sub (Constant (pos 2)) (Constant (pos 3)) ≡ Constant (negsuc 0)
unfolding int_wrap
folded = refl

wrapped : binary Add (Constant (pos 2147483647)) (Constant (pos 1)) ≡ Constant (negsuc 2147483647)
unfolding int_wrap
wrapped = refl

negated : unary Neg (Constant (negsuc 2147483647)) ≡ Constant (negsuc 2147483647)
unfolding int_wrap
negated = refl

-- a parameter does not
kept : binary Sub (Param 0 I) (Constant (pos 3)) ≡ Binary Sub (Param 0 I) (Constant (pos 3))
kept = refl

valued : value (pos 7 ∷ pos 9 ∷ []) (Binary Sub (Param 1 I) (Binary Add (Param 0 I) (Constant (pos 3)))) ≡ negsuc 0
unfolding int_wrap
valued = refl

kept_second : binary Sub (Constant (pos 3)) (Param 0 I) ≡ Binary Sub (Constant (pos 3)) (Param 0 I)
kept_second = refl

no_constant : is_constant (binary Sub (Param 0 I) (Constant (pos 3))) ≡ false
no_constant = refl

kept_one : unary Neg (Param 0 I) ≡ Unary Neg (Param 0 I)
kept_one = refl
