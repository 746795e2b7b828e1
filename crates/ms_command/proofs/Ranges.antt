-- The number of a command that is read is within its range.
use Rattle.std.proofs.Common.{◌≡◌, ℕ, ◌≤◌, Bool, true, false, cond, List, [], ◌∷◌, Option, Some, None, Result, Ok, Err, refl, subst}
use Rattle.std.specs.Prelude.{ℤ, ◌&&◌, nat_le, codes, MatchResult, IfOk}
use Rattle.std.specs.Str.{bytes_eq}
use Rattle.std.specs.List.{list_all}
use Rattle.std.proofs.lemmas.Bool.{and_parts, leb-true}
use Rattle.ms_words.specs.Inputs.{is_of}
use Rattle.ms_words.specs.declared.kind.Kind.TheVariants.{I}
use Rattle.ms_command.specs.declared.command.Command.{Command}
use Rattle.ms_command.specs.declared.command.Command.TheVariants.{Nothing, Once, Class, Entry, Depth, Explore, Report, Quit}
use Rattle.ms_command.specs.declared.reply.Reply.{Reply}
use Rattle.ms_command.specs.declared.reply.Reply.TheVariants.{NoCommand, Range}
use Rattle.ms_command.specs.Commands.{IsInRange, alone, class_of, command_of_tokens, depth_of, entry_of, explore_of, in_range, once_of, ranged}
use Rattle.ms_command.specs.Numerals.{numeral_value, number_values}

made : (command other : Command) → IsInRange command → ◌≡◌ {A = Result Command Reply} (Ok command) (Ok other) → IsInRange other
made command other fits same = let one : command ≡ other = cc in subst IsInRange one fits

either_way : {P : Type 0} (b : Bool) (x y : Result Command Reply) (c : Command) → cond b x y ≡ Ok c → (x ≡ Ok c → P) → (y ≡ Ok c → P) → P
either_way true x y c is first second = first is
either_way false x y c is first second = second is

by_range : (b : Bool) (command c : Command) → (b ≡ true → IsInRange command) → cond b (Ok command) (Err Range) ≡ Ok c → IsInRange c
by_range true command c fits is = made command c (fits refl) is
by_range false command c fits is = absurd cc

ranged_fits : (lowest highest : ℕ) (make : ℕ → Command) → ((n : ℕ) → lowest ≤ n → n ≤ highest → IsInRange (make n)) → (o : Option ℕ) (c : Command) → ranged lowest highest make o ≡ Ok c → IsInRange c
ranged_fits lowest highest make fits None c is = absurd cc
ranged_fits lowest highest make fits (Some n) c is =
    by_range (nat_le lowest n && nat_le n highest) (make n) c (λ e. let both = and_parts (nat_le lowest n) (nat_le n highest) e in fits n (leb-true _ _ both.0) (leb-true _ _ both.1)) is

in_range_fits : (make : List ℤ → Command) → ((words : List ℤ) → IsInRange (make words)) → (o : Option (List ℤ)) (c : Command) → in_range make o ≡ Ok c → IsInRange c
in_range_fits make fits None c is = absurd cc
in_range_fits make fits (Some words) c is = by_range (list_all (is_of I) words) (make words) c (λ e. fits words) is

once_fits : (tokens : List (List ℕ)) (c : Command) → once_of tokens ≡ Ok c → IsInRange c
once_fits [] c is = absurd cc
once_fits (file ∷ []) c is = absurd cc
once_fits (file ∷ name ∷ []) c is = absurd cc
once_fits (file ∷ name ∷ desc ∷ words) c is = in_range_fits (Once file name desc) (λ w. tt) (number_values words) c is

class_fits : (tokens : List (List ℕ)) (c : Command) → class_of tokens ≡ Ok c → IsInRange c
class_fits [] c is = absurd cc
class_fits (file ∷ []) c is = made (Class file) c tt is
class_fits (file ∷ extra ∷ more) c is = absurd cc

entry_fits : (tokens : List (List ℕ)) (c : Command) → entry_of tokens ≡ Ok c → IsInRange c
entry_fits [] c is = absurd cc
entry_fits (class ∷ []) c is = absurd cc
entry_fits (class ∷ name ∷ []) c is = absurd cc
entry_fits (class ∷ name ∷ desc ∷ []) c is = made (Entry class name desc) c tt is
entry_fits (class ∷ name ∷ desc ∷ extra ∷ more) c is = absurd cc

depth_fits : (tokens : List (List ℕ)) (c : Command) → depth_of tokens ≡ Ok c → IsInRange c
depth_fits [] c is = absurd cc
depth_fits (depth ∷ []) c is = ranged_fits 0 256 Depth (λ n low high. high) (numeral_value depth) c is
depth_fits (depth ∷ extra ∷ more) c is = absurd cc

explore_fits : (tokens : List (List ℕ)) (c : Command) → explore_of tokens ≡ Ok c → IsInRange c
explore_fits [] c is = absurd cc
explore_fits (most ∷ []) c is = ranged_fits 1 1000000 Explore (λ n low high. (low, high)) (numeral_value most) c is
explore_fits (most ∷ extra ∷ more) c is = absurd cc

alone_fits : (command : Command) (tokens : List (List ℕ)) (c : Command) → IsInRange command → alone command tokens ≡ Ok c → IsInRange c
alone_fits command [] c fits is = made command c fits is
alone_fits command (extra ∷ more) c fits is = absurd cc

none_fits : (c : Command) → ◌≡◌ {A = Result Command Reply} (Err NoCommand) (Ok c) → IsInRange c
none_fits c is = absurd cc

pub tokens_fit : (tokens : List (List ℕ)) (c : Command) → command_of_tokens tokens ≡ Ok c → IsInRange c
tokens_fit [] c is = made Nothing c tt is
tokens_fit (word ∷ arguments) c is =
    either_way (bytes_eq word (codes "once")) _ _ c is (once_fits arguments c) (λ is.
    either_way (bytes_eq word (codes "class")) _ _ c is (class_fits arguments c) (λ is.
    either_way (bytes_eq word (codes "entry")) _ _ c is (entry_fits arguments c) (λ is.
    either_way (bytes_eq word (codes "depth")) _ _ c is (depth_fits arguments c) (λ is.
    either_way (bytes_eq word (codes "explore")) _ _ c is (explore_fits arguments c) (λ is.
    either_way (bytes_eq word (codes "report")) _ _ c is (alone_fits Report arguments c tt) (λ is.
    either_way (bytes_eq word (codes "quit")) _ _ c is (alone_fits Quit arguments c tt) (none_fits c)))))))

pub result_fits : {R : Type 0} (result : Result Command R) (found : Result Command Reply) (P : R → Type 0) → ((c : Command) → found ≡ Ok c → IsInRange c) → MatchResult result (λ command. found ≡ Ok command) P → IfOk result IsInRange
result_fits (Ok command) found P fits is = fits command is
result_fits (Err refusal) found P fits is = tt
