-- `places::count::pair` meets its contract: by what it has read of both branches, the sum is one of two.
use Rattle.std.proofs.Common.{◌≡◌, ℕ, ◌+◌, ◌*◌, ◌≤◌, not, List, length, sym, refl, ap, ◌∙◌, subst, mul-le-mul, arith}
use Rattle.lists.specs.Lists.{pick, same, word, range, keep}
use Rattle.scheme.specs.Words.{publics, channel, branch_name}
use Rattle.places.specs.Answers.{Sums, sums_of}
use Rattle.places.specs.Sets.{bit_at}
use Rattle.places.specs.Reaches.{common_reach}
use Rattle.places.specs.Plan.{Laid, reach_in, privates_at}
use Rattle.places.specs.Inner.Counting.{Few, add_both, bound_bit, pair_sums, Sends}
use Rattle.places.specs.declared.count.Sending.{Sending}
use Rattle.places.specs.declared.count.Side.{Side}
use Rattle.places.specs.declared.reach.Reach.{Reach}
use Rattle.places.proofs.NodeCounts.{Read, reads, privates-few, self-sums, other-sums, bound-few}
use Rattle.places.proofs.count.pair.Goals.{After-privates_of-privates}
use Rattle.places.proofs.count.pair.Goals as goal

-- what is read of the send and the receive: 1 for a bound channel of the receive, the common public and private values
record Told (w x : List ℕ) (s : Sending) (r : Side) (i : Reach) (be c v : ℕ) : Type 0 where
  laid : Laid w x
  sends : Sends w x s.branch s
  heard : r.channel ≡ channel w r.branch
  both : i ≡ common_reach (reach_in x (channel w s.branch)) (reach_in x (channel w r.branch))
  bound : be ≡ bound_bit w r.channel
  publics-are : (c ≡ length (keep (bit_at i.publics) (range (publics w)))) × (c ≤ 64)
  privates-are : v ≡ pick (not (same i.restricted 0)) (word x privates_at) 0

module _ {w x : List ℕ} {s : Sending} {r : Side} {i : Reach} {be c v : ℕ} (d : Told w x s r i be c v) where
  -- the send's channel and name, the receive's channel
  abbrev a : ℕ
  a = channel w s.branch

  abbrev z : ℕ
  z = branch_name w s.branch

  abbrev e : ℕ
  e = channel w r.branch

  read : Read w s.branch r.branch a z e i s.channels be c v
  read =
      reads w x d.laid s.branch r.branch a z e (reach_in x a) (reach_in x e) i s.channels be c v refl refl refl refl refl d.both
      d.sends.channels-are (d.bound ∙ ap (bound_bit w) d.heard) d.publics-are.0 d.privates-are

  few : s.channels + be ≤ 2
  few =
      omega (
        arith,
        bound-few s.channels a (publics w) d.sends.channels-are,
        bound-few be r.channel (publics w) d.bound,
      )

  three-few : s.channels + be + s.names ≤ 3
  three-few = omega (arith, few, bound-few s.names z (publics w) d.sends.names-are)

  all-few : c + v ≤ 96
  all-few = omega (arith, d.publics-are.1, privates-few w s.branch r.branch a z e i s.channels be c v read)

  -- the sum, where both names are one
  self : (so_far : Sums) → s.name ≡ s.channel
      → pair_sums w s.branch so_far r.branch ≡ add_both so_far c (s.channels + be + 2) (s.channels + be + 3) v (s.channels + be + 3)
  self so_far q =
      self-sums w s.branch r.branch a z e i s.channels be c v read so_far (sym d.sends.name-is ∙ q ∙ d.sends.channel-is)

  -- and where they differ
  other : (so_far : Sums) → (s.name ≡ s.channel → ⊥)
      → pair_sums w s.branch so_far r.branch
      ≡ add_both so_far ((c + v) * s.publics) (s.channels + be + s.names + 2) (s.channels + be + s.names + 3) ((c + v) * s.privates) (s.channels + be + s.names + 3)
  other so_far n =
      other-sums w s.branch r.branch a z e i s.channels be c v read so_far s.names s.publics s.privates
      (λ k. n (d.sends.name-is ∙ k ∙ sym d.sends.channel-is)) d.sends.names-are d.sends.publics-are d.sends.privates-are

told : (c : After-privates_of-privates)
    → Told c.args.table.now c.args.index.now c.args.s c.args.r c.args.i
    c.bound.result c.publics_of-publics.result c.privates_of-privates.result
told c = record {
  laid = c.requires.0;
  sends = c.requires.1;
  heard = c.requires.2;
  both = c.requires.3;
  bound = c.bound.ensures;
  publics-are = c.publics_of-publics.ensures;
  privates-are = c.privates_of-privates.ensures;
}

pub more_of_both-requires : goal.more_of_both-requires
more_of_both-requires c =
    let d = told (goal.at.more_of_both-requires c).After-privates_of-privates in
    subst Few (self d (sums_of c.args.t) c.if-s.true) c.requires.4

pub returns-then-s : goal.returns-then-s
returns-then-s c =
    let d = told (goal.at.returns-then-s c).After-privates_of-privates in
    c.more_of_both.ensures ∙ sym (self d (sums_of c.args.t) c.if-s.true)

pub overflow_add-all : goal.overflow_add-all
overflow_add-all c =
    let d = told (goal.at.overflow_add-all c).After-privates_of-privates in
    omega (arith, all-few d)

pub overflow_mul-all : goal.overflow_mul-all
overflow_mul-all c =
    let d = told (goal.at.overflow_mul-all c).After-privates_of-privates in
    omega (arith, mul-le-mul (all-few d) c.requires.1.few-publics)

pub overflow_mul-all-2 : goal.overflow_mul-all-2
overflow_mul-all-2 c =
    let d = told (goal.at.overflow_mul-all-2 c).After-privates_of-privates in
    omega (arith, mul-le-mul (all-few d) c.requires.1.few-privates)

pub more_of_both-requires-2 : goal.more_of_both-requires-2
more_of_both-requires-2 c =
    let d = told (goal.at.more_of_both-requires-2 c).After-privates_of-privates in
    subst Few (other d (sums_of c.args.t) c.if-s.false) c.requires.4

pub returns : goal.returns
returns c =
    let d = told (goal.at.returns c).After-privates_of-privates in
    c.more_of_both-2.ensures ∙ sym (other d (sums_of c.args.t) c.if-s.false)
