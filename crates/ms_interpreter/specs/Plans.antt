-- Ints that an instruction plans to make, before any arithmetic is done.
use Rattle.std.specs.Prelude.{ℤ, Option}
use Rattle.ms_words.specs.declared.operator.Un.{Un}
use Rattle.ms_words.specs.declared.operator.Bin.{Bin}
use Rattle.ms_words.specs.declared.operator.Bin.TheVariants.{Add}
use Rattle.ms_machine.specs.Ints.{Ints}
use Rattle.ms_interpreter.specs.declared.plan.Plan as declared
use Rattle.ms_interpreter.specs.declared.plan.Plan.TheVariants as plan

-- a planned int: one that is there, that of a word, or what an operator gives
pub data Planned (I : Type 0) : Type 0 where
  Given : I → Planned I
  Constant : ℤ → Planned I
  Unary : Un → Planned I → Planned I
  Binary : Bin → Planned I → Planned I → Planned I

-- the machine of planned ints, where this is known of them
abbrev pub plans : {I : Type 0} → (Planned I → Option ℤ) → Ints (Planned I)
plans known = record { constant = Constant; unary = Unary; binary = Binary; known = known }

-- the planned int of a plan
abbrev pub planned : {I : Type 0} → declared.Plan I → Planned I
planned (plan.Constant word) = Constant word
planned (plan.Unary op a) = Unary op (Given a)
planned (plan.Binary op a b) = Binary op (Given a) (Given b)
planned (plan.Plus a word) = Binary Add (Given a) (Constant word)

-- the int that a plan comes to, where a map says what those that are there are
abbrev pub computed : {I V : Type 0} → Ints V → (I → V) → Planned I → V
computed J f (Given a) = f a
computed J f (Constant word) = J.constant word
computed J f (Unary op a) = J.unary op (computed J f a)
computed J f (Binary op a b) = J.binary op (computed J f a) (computed J f b)
