-- A conversation up to the end of a turn.
use Rattle.std.proofs.Common.{◌≡◌, ℕ, ◌+◌, ◌-◌, List, [], ◌++◌, length, ◌∙◌, arith, length-append, refl, ap}
use Rattle.std.specs.Io.KnownBytes.{Consumes}
use Rattle.std.proofs.KnownBytes.{Consumes-nil, Consumes-trans}
use Rattle.ms_session.specs.States.{State, new_state}
use Rattle.ms_memoise.specs.declared.flow.Flow.TheVariants.{GoesOn}
use Rattle.ms_memoise.specs.declared.conversation.Turn.TheVariants as turns
use Rattle.ms_memoise.specs.Conversations.{Outside}
use Rattle.ms_memoise.specs.Feeding.{Fed}
use Rattle.ms_memoise.specs.Turns.{Turned}
use Rattle.ms_memoise.proofs.Fed.{fed_both, fed_nothing}

-- these bytes were taken, all lines that they end were done, none of them a quit, and this is kept of the line after them
pub record Stands (limit left : ℕ) (kept : List ℕ) (state : State) (before now : Outside) : Type 0 where
  pub bytes : List ℕ
  pub took : Consumes before.source.left now.source.left bytes
  pub many : length bytes + left ≡ limit
  pub fed : Fed GoesOn [] bytes kept new_state state before.shelf now.shelf before.sink now.sink
  pub reads : now.source.faults ≡ before.source.faults

pub stands_first : (limit : ℕ) (kept : List ℕ) (x : State) (o : Outside) → kept ≡ [] → x ≡ new_state → Stands limit limit kept x o o
stands_first limit kept x o none new = rw (none, new) (record {
  bytes = [];
  took = Consumes-nil o.source.left;
  many = omega arith;
  fed = fed_nothing [] new_state o.shelf o.sink;
  reads = refl;
})

stands_more : (limit left left_now : ℕ) (kept bytes kept_now : List ℕ) (x y : State) (o p q : Outside) → Stands limit left kept x o p → Consumes p.source.left q.source.left bytes → length bytes + left_now ≡ left
    → Fed GoesOn kept bytes kept_now x y p.shelf q.shelf p.sink q.sink → q.source.faults ≡ p.source.faults → Stands limit left_now kept_now y o q
stands_more limit left left_now kept bytes kept_now x y o p q s took many fed reads = record {
  bytes = s.bytes ++ bytes;
  took = Consumes-trans _ _ _ _ _ s.took took;
  many = omega (arith, s.many, many, length-append s.bytes bytes);
  fed = fed_both GoesOn [] s.bytes kept bytes kept_now new_state x y _ _ _ _ _ _ s.fed fed;
  reads = reads ∙ s.reads;
}

pub stands_after : (limit left count : ℕ) (kept kept_now : List ℕ) (x y : State) (o p q : Outside) → Stands limit left kept x o p → Turned left kept (turns.GoesOn count) kept_now x y p q
    → Stands limit (left - count) kept_now y o q
stands_after limit left count kept kept_now x y o p q s t =
    stands_more limit left (left - count) kept t.bytes kept_now x y o p q s t.took (omega (arith, t.within, t.comes.1)) t.fed t.reads

pub stands_ended : (limit left : ℕ) (kept kept_now : List ℕ) (x y : State) (o p q : Outside) → Stands limit left kept x o p → Turned left kept turns.Ended kept_now x y p q → Stands limit left kept_now y o q
stands_ended limit left kept kept_now x y o p q s t =
    stands_more limit left left kept t.bytes kept_now x y o p q s t.took (omega (arith, ap length t.comes.0)) t.fed t.reads
