use Rattle.std.proofs.Common.{sym, ◌∙◌, refl}
use Rattle.places.specs.Answers.{sums_of}
use Rattle.places.specs.Inner.Counting.{over, release_sums}
use Rattle.places.proofs.Adding.{release-grows, rest-few, rest-on, rest-done}
use Rattle.places.proofs.count.releases.Goals as goal

pub for_values-r-requires : goal.for_values-r-requires
unfolding release_sums
for_values-r-requires c =
    let a = c.args in
    let w = a.table.now in
    let xs = a.names.now in
    let l = c.loop-name in (
      c.requires.0,
      rest-few (release_sums w) (release-grows w) (over (release_sums w) (sums_of a.t) xs) (sums_of l.r) xs l.name-index _ l.invariant
          c.loop-name-test.true refl c.requires.1,
    )

pub loop-name-preserved : goal.loop-name-preserved
unfolding release_sums
loop-name-preserved c =
    let a = c.args in
    let w = a.table.now in
    let xs = a.names.now in
    let l = c.loop-name in
    let r = c.for_values-r in
    rest-on (release_sums w) (over (release_sums w) (sums_of a.t) xs) (sums_of l.r) (sums_of r.result) xs l.name-index _ l.invariant
    c.loop-name-test.true refl r.ensures

pub returns : goal.returns
returns c =
    let a = c.args in
    let l = c.loop-name in
    sym (l.invariant ∙ rest-done (release_sums a.table.now) (sums_of l.r) a.names.now l.name-index c.loop-name-test.false)
