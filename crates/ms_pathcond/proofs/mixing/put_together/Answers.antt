use Rattle.std.proofs.Common.{◌≡◌, ◌+◌, suc, true, false, get_or, length, pos, slice_get, slice_set, FitsSigned, w32, sym, ap, subst, ◌∙◌, arith, rules}
use Rattle.std.specs.Prelude.{IfSome}
use Rattle.std.proofs.lemmas.Bool.{OnTrue_at}
use Rattle.ms_pathcond.proofs.Bits.{one_is, one_is_not}
use Rattle.std.proofs.lemmas.Int.{to_z-of_z}
use Rattle.ms_words.specs.Inputs.{Words, is_of}
use Rattle.ms_pathcond.specs.Mixing.{has}
use Rattle.ms_pathcond.proofs.Together.{fits_there, many_words, mixed_until, read_at, until_all, until_first, until_second}
use Rattle.ms_pathcond.proofs.mixing.put_together.Goals as goal
use Rattle.ms_pathcond.proofs.mixing.put_together.Goals.{else-params-place-eq1, then-params-place-eq1+else-prove}

pub prove-unreachable-requires : goal.prove-unreachable-requires
prove-unreachable-requires c =
    let word = get_or c.words-words.result.now c.loop-place.place (pos 0) in
    let fits : FitsSigned w32 word = search rules in
    let many = many_words c.args.first.now c.args.second.now c.words-words.ensures.kept c.words-place-end.ensures.kept c.requires in
    let at = read_at c.args.first.now.words c.words-words.result.now c.loop-place.place c.words-words.ensures.words (omega (arith, c.loop-place-test.true, many, ap length c.words-place-end.ensures.words)) in
    let its = subst (λ v. IfSome (slice_get c.loop-place.input.kinds c.loop-place.place) (λ kind. c.set-fits.result ≡ is_of kind v)) (to_z-of_z w32 word fits) c.set-fits.ensures.fits in
    let it = fits_there c.args.first.now c.args.second.now c.loop-place.place word c.set-fits.result c.words-words.ensures.kept c.requires at
    (subst (λ (input : Words). IfSome (slice_get input.kinds c.loop-place.place) (λ kind. c.set-fits.result ≡ is_of kind word)) c.loop-place.invariant its) in
    absurd (let f = c.if-prove.true in cc)

pub loop-place-preserved : goal.loop-place-preserved
loop-place-preserved c =
    let first = c.args.first.now in
    let second = c.args.second.now in
    let word = get_or c.words-words.result.now c.loop-place.place (pos 0) in
    let many = many_words first second c.words-words.ensures.kept c.words-place-end.ensures.kept c.requires in
    let at = read_at first.words c.words-words.result.now c.loop-place.place c.words-words.ensures.words (omega (arith, c.loop-place-test.true, many, ap length c.words-place-end.ensures.words)) in
    let here : 0 + c.loop-place.place ≡ c.loop-place.place = omega arith in
    let next : c.loop-place.place + 1 ≡ suc c.loop-place.place = omega arith in
    elim c.if-params-place-eq1.branch [
      | then-params-place-eq1+else-prove w ↦
          let fits : FitsSigned w32 word = search rules in
          let set : has c.args.params (0 + c.loop-place.place) ≡ true = ap (has c.args.params) here ∙ one_is _ w.if-params-place-eq1.true in
          w.input-is ∙ OnTrue_at w.if-prove.false w.set-fits.ensures.written
          ∙ ap (λ v. record { kinds = c.loop-place.input.kinds; words = slice_set c.loop-place.input.words c.loop-place.place v }) (to_z-of_z w32 word fits)
          ∙ ap (λ (input : Words). record { kinds = input.kinds; words = slice_set input.words c.loop-place.place word }) c.loop-place.invariant
          ∙ ap (λ words. record { kinds = second.kinds; words = words })
          (until_first (has c.args.params) 0 c.loop-place.place first.words second.words word many at set ∙ ap (λ n. mixed_until (has c.args.params) 0 n first.words second.words) (sym next))
      | else-params-place-eq1 w ↦
          let unset : has c.args.params (0 + c.loop-place.place) ≡ false = ap (has c.args.params) here ∙ one_is_not _ w.if-params-place-eq1.false in
          w.input-is ∙ c.loop-place.invariant
          ∙ ap (λ words. record { kinds = second.kinds; words = words })
          (until_second (has c.args.params) 0 c.loop-place.place first.words second.words many unset ∙ ap (λ n. mixed_until (has c.args.params) 0 n first.words second.words) (sym next))
    ]

pub returns : goal.returns
returns c =
    let first = c.args.first.now in
    let second = c.args.second.now in
    let many = many_words first second c.words-words.ensures.kept c.words-place-end.ensures.kept c.requires in
    c.loop-place.invariant ∙ ap (λ words. record { kinds = second.kinds; words = words })
    (until_all (has c.args.params) 0 c.loop-place.place first.words second.words (omega (arith, c.loop-place-test.false, c.loop-place.auto.place-end, ap length c.words-place-end.ensures.words)) many)
