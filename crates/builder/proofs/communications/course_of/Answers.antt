use mathlib.Core.Path.{refl, sym, ap, subst, ◌∙◌}
use mathlib.Core.List.{List}
use Prim.Native.Nat.{ℕ}
use native.Mathlib.Omega.{arith}
use lib.ListN.{length}
use Rattle.lists.specs.Lists.{same}
use Rattle.lists.proofs.Tests.{same_true}
use Rattle.places.specs.Inner.Plan.{values}
use Rattle.places.proofs.NodeCounts.{values-read}
use Rattle.builder.specs.Inner.Spans.{Parted}
use Rattle.builder.proofs.Counted.{counted}
use Rattle.builder.proofs.ValueLoops.{count-asks, reach-is}
use Rattle.builder.proofs.ValueRuns.{reach-fits, single}
use Rattle.builder.proofs.communications.course_of.Goals as goal

pub returns-then-name-channel : goal.returns-then-name-channel
returns-then-name-channel c = record {
  narrow = record { small = omega arith; rises = omega arith; few = omega arith };
  single = λ b. single;
  own = λ e. (refl, refl);
  others = λ d. absurd (d c.if-name-channel.true);
}

pub value_count-one-requires : goal.value_count-one-requires
value_count-one-requires c =
    count-asks c.args.table.now c.args.index.now c.privates-privates.result c.requires c.privates-privates.ensures.is

pub values_of-requires : goal.values_of-requires
values_of-requires c =
    let a = c.args in
    let r = c.reach_of-reach in
    reach-fits a.table.now a.index.now c.requires c.word-publics.result c.privates-privates.result
    (counted a.table.now a.index.now c.word-publics.result c.privates-privates.result c.requires c.word-publics.ensures.is c.privates-privates.ensures.is)
    a.name r.result r.ensures

pub returns : goal.returns
unfolding same
returns c =
    let a = c.args in
    let w = a.table.now in
    let x = a.index.now in
    let k = counted w x c.word-publics.result c.privates-privates.result c.requires c.word-publics.ensures.is c.privates-privates.ensures.is in
    let r = c.reach_of-reach in
    let v = c.values_of.ensures in record {
      narrow = v.narrow;
      single = λ b. ap (λ (l : List ℕ). length l) v.is ∙ sym c.value_count-one.ensures ∙ same_true c.value_count-one.result 1 b;
      own = λ e. absurd (c.if-name-channel.false e);
      others = λ d. (
        refl,
        subst (λ (p : ℕ). Parted p c.values_of.result) k.publics-are v.parted,
        v.is ∙ reach-is w _ _ r.result (values w a.name) k.publics-are k.privates-are
            (values-read w x c.requires a.name r.result r.ensures),
      );
    }
