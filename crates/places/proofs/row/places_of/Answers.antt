use Rattle.std.proofs.Common.{ℕ, ◌+◌, ◌-◌, ◌*◌, sym, ap, ◌∙◌, arith}
use lib.Count.{ones, ones-le}
use Rattle.places.specs.Sets.{bit_at}
use Rattle.places.proofs.Starts.{places-public, places-own, places-more}
use Rattle.places.proofs.row.places_of.Goals as goal

pub returns-then-restricted-eq0 : goal.returns-then-restricted-eq0
returns-then-restricted-eq0 c =
    let a = c.args in (
      ap ones c.public_word.ensures.is
          ∙ places-public a.publics a.privates a.name a.index.now (sym c.restricted_word-restricted.ensures.is ∙ c.if-restricted-eq0.true),
      omega (arith, ones-le 32 c.public_word.result (omega (arith, c.public_word.ensures.small))),
    )

pub returns-then-has : goal.returns-then-has
returns-then-has c =
    let a = c.args in
    let e = ap (λ (r : ℕ). bit_at r (a.name - a.publics)) (sym c.restricted_word-restricted.ensures.is) ∙ sym c.has.ensures ∙ c.if-has.true in
    (places-own a.publics a.privates a.name a.index.now e, omega (arith, c.ranges))

pub returns : goal.returns
returns c =
    let a = c.args in
    let q = c.restricted_word-restricted.ensures.is in
    let e = ap (λ (r : ℕ). bit_at r (a.name - a.publics)) (sym q) ∙ sym c.has.ensures ∙ c.if-has.false in (
      ap (λ (k : ℕ). ones k + 2 * a.privates) c.public_word-2.ensures.is
          ∙ places-more a.publics a.privates a.name a.index.now e (λ z. c.if-restricted-eq0.false (q ∙ z)),
      omega (arith, ones-le 32 c.public_word-2.result (omega (arith, c.public_word-2.ensures.small)), c.ranges),
    )
