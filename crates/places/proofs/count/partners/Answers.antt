use Rattle.std.proofs.Common.{◌≡◌, ℕ, ◌-◌, ◌<◌, length, sym, refl, ap, ◌∙◌, subst, arith}
use lib.Bits.{bit_and}
use lib.Count.{count_trailing_zeros}
use Rattle.places.specs.Answers.{Sums, sums_of}
use Rattle.places.specs.Sides.{side_at, receives_of}
use Rattle.places.specs.Inner.Counting.{set_sums}
use Rattle.places.specs.declared.count.Side.{Side}
use Rattle.places.specs.declared.reach.Reach.{Reach}
use Rattle.places.specs.declared.sets.Bits.{Bits}
use Rattle.places.proofs.Bits.{bit_below}
use Rattle.places.proofs.Hearing.{set-done, set_next, set_first}
use Rattle.places.proofs.Scanning.{Left, left-start, left-next, left_in, lowest-small}
use Rattle.places.proofs.count.partners.Goals as goal

pub loop-k-init : goal.loop-k-init
loop-k-init c =
    let a = c.args in
    let w = a.table.now in
    let s = sums_of a.t in
    subst (λ (b : Bits). (set_sums w a.send s a.set ≡ set_sums w a.send s b.0) × Left a.set b.0) (sym c.into_iter-k-iterator.ensures.into_iter_gives)
    (refl, left-start a.set (omega (arith, c.ranges)))

pub overflow_cast-r : goal.overflow_cast-r
overflow_cast-r c =
    let l = c.loop-k in
    let s = c.in-Some.ensures.steps in
    omega (arith, s.1, lowest-small l.k-iterator.0 s.0 l.invariant.1.1)

pub pair-q-requires : goal.pair-q-requires
pair-q-requires c =
    let s = c.in-Some.ensures.steps in
    let a = c.args in
    let w = a.table.now in
    let l = c.loop-k in
    let d = s.0 in
    let i = count_trailing_zeros 64 l.k-iterator.0 in
    let h : i < length (receives_of w) = bit_below (length (receives_of w)) a.set i c.requires.2 (left_in a.set l.k-iterator.0 d l.invariant.1) in
    let k = c.sender-s.ensures in
    let b : c.sender-s.result.branch ≡ a.send = k.branch-is in
    let t = c.receive_at-r.ensures ∙ ap (side_at a.pairs.now) s.1 ∙ c.requires.1.sides-are i h in
    let y = ap (λ (v : Side). v.branch) t in
    let e = ap (λ (v : Side). v.channel) t in
    let v = k.values-are in
    rw (b, y) (
      c.requires.0,
      record {
        branch-is = refl;
        thread-is = k.thread-is;
        channel-is = k.channel-is;
        name-is = k.name-is;
        values-are = rw (ap (λ (r : Reach). r.publics) v, ap (λ (r : Reach). r.restricted) v);
        channels-are = k.channels-are;
        names-are = k.names-are;
        publics-are = k.publics-are;
        privates-are = k.privates-are;
        few-publics = k.few-publics;
        few-privates = k.few-privates;
      },
      e,
      c.common-i.ensures ∙ rw (k.values-are, c.reach_of.ensures, e),
      set_first w a.send (sums_of a.t) (sums_of l.q) a.set l.k-iterator.0 d l.invariant.1.1 l.invariant.0 c.requires.3,
    )

pub loop-k-preserved : goal.loop-k-preserved
loop-k-preserved c =
    let s = c.in-Some.ensures.steps in
    let a = c.args in
    let w = a.table.now in
    let l = c.loop-k in
    let d = s.0 in
    let i = count_trailing_zeros 64 l.k-iterator.0 in
    let h : i < length (receives_of w) = bit_below (length (receives_of w)) a.set i c.requires.2 (left_in a.set l.k-iterator.0 d l.invariant.1) in
    let b : c.sender-s.result.branch ≡ a.send = c.sender-s.ensures.branch-is in
    let y = ap (λ (v : Side). v.branch) (c.receive_at-r.ensures ∙ ap (side_at a.pairs.now) s.1 ∙ c.requires.1.sides-are i h) in
    subst (λ (n : ℕ). (set_sums w a.send (sums_of a.t) a.set ≡ set_sums w a.send (sums_of c.pair-q.result) n) × Left a.set n) (sym s.2) (
      l.invariant.0 ∙ set_next w a.send (sums_of l.q) l.k-iterator.0 d l.invariant.1.1
          ∙ ap (λ (t : Sums). set_sums w a.send t (bit_and l.k-iterator.0 (l.k-iterator.0 - 1))) (sym (c.pair-q.ensures ∙ rw (b, y))),
      left-next a.set l.k-iterator.0 d l.invariant.1,
    )

pub returns : goal.returns
returns c =
    let l = c.loop-k in
    let a = c.args in
    sym (l.invariant.0 ∙ set-done a.table.now a.send (sums_of l.q) l.k-iterator.0 c.in-None.ensures.steps)
