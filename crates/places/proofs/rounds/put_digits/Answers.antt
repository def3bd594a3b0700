use Rattle.std.proofs.Common.{◌≡◌, ◌+◌, ◌-◌, ◌/◌, ◌%◌, ◌^◌, refl, ◌∙◌, arith}
use native.Mathlib.Nat.{zero-div, zero-mod}
use Rattle.lists.specs.Lists.{word, from}
use Rattle.lists.proofs.Stores.{store-more}
use Rattle.places.proofs.Bits.{one_shifted}
use Rattle.places.proofs.Plans.{rest-same}
use Rattle.places.proofs.rounds.put_digits.Goals as goal

pub loop-x-init : goal.loop-x-init
unfolding from
loop-x-init c =
    (refl, one_shifted c.args.size (omega (arith, c.requires.3)))

pub loop-x-preserved : goal.loop-x-preserved
loop-x-preserved c =
    let a = c.args in
    let l = c.loop-x in
    let u = c.store.ensures in (
      u ∙ store-more (λ x. word a.words.now x / 2 ^ a.first % 2 ^ a.size) a.index.now a.at l.x l.index l.invariant.0 _
          (rw (l.invariant.1, c.word64.ensures)),
      l.invariant.1,
    )

pub returns : goal.returns
returns c =
    let a = c.args in
    let l = c.loop-x in
    let e : l.x ≡ a.n = omega (arith, c.loop-x-test.false) in
    let q : a.n + (a.at + 64 - (a.at + a.n)) ≡ 64 = omega (arith, c.requires.0) in
    rest-same (λ x. word a.words.now x / 2 ^ a.first % 2 ^ a.size) a.index.now a.at a.n (a.at + 64 - (a.at + a.n)) 0
    (λ y u. rw (c.requires.1 y u, zero-div (2 ^ a.first)) (zero-mod (2 ^ a.size)))
    (omega (arith, c.requires.0, c.requires.5)) l.index _ (rw (← e) l.invariant.0) (c.fill.ensures.after (λ y e. e)) ∙ rw q
