use mathlib.Core.Path.{◌≡◌, sym, ◌∙◌}
use native.Mathlib.Omega.{arith}
use Rattle.places.specs.Inner.Plan.{privates_word}
use Rattle.places.proofs.Plans.{privates-are, row_small}
use Rattle.builder.specs.Inner.Parts.{state}
use Rattle.builder.proofs.Released.{Listed, releasable, publics-fit, privates-fit, publics-inside, publics-only, privates-inside, privates-too}
use Rattle.builder.proofs.chain.release_name.Goals.{After-publics_of-count, After-privates}
use Rattle.builder.proofs.chain.release_name.Goals as goal

-- the values of the name, as they are read
listed : (c : After-publics_of-count)
    → let a = c.args in
    Listed a.table.now a.index.now a.c a.x.k a.x.name c.reach_of-r.result a.row c.publics_of-count.result
listed c =
    let p = c.requires in
    record {
      laid = p.0;
      chained = p.1;
      inside = p.2;
      low = p.3;
      high = p.4;
      reach-told = c.reach_of-r.ensures;
      row_told = p.5;
      count-told = c.publics_of-count.ensures.0;
    }

-- how many private names there are, as it is read
private_count : (c : After-privates) → c.privates.result ≡ privates_word c.args.table.now
private_count c = c.privates.ensures.is ∙ privates-are c.args.table.now c.args.index.now c.requires.0

-- ---- the answers

pub release_values-q-requires : goal.release_values-q-requires
release_values-q-requires c =
    let a = c.args in
    let p = c.requires in
    let q = listed (goal.at.release_values-q-requires c).After-publics_of-count in (
      releasable q,
      publics-fit q,
      tt,
      publics-inside q (state a.out.now a.h) p.6,
    )

pub returns-then-not-has_privates : goal.returns-then-not-has_privates
returns-then-not-has_privates c =
    let a = c.args in
    let q = listed (goal.at.returns-then-not-has_privates c).After-publics_of-count in
    publics-only q (state a.out.now a.h) _ c.release_values-q.ensures
    (sym c.has_privates.ensures ∙ c.if-not-has_privates.true)

pub overflow_add-first : goal.overflow_add-first
overflow_add-first c =
    omega (
      arith,
      c.requires.5,
      row_small c.args.table.now c.requires.0.accepted c.args.x.name (omega (arith, c.requires.4)),
      c.publics_of-count.ensures.1,
    )

pub release_values-requires : goal.release_values-requires
release_values-requires c =
    let a = c.args in
    let p = c.requires in
    let q = listed (goal.at.release_values-requires c).After-publics_of-count in
    let g = c.given_back-back in
    let e = private_count (goal.at.release_values-requires c).After-privates in
    let f = privates-fit q g.result c.privates.result g.ensures e in (
      releasable q,
      f.0,
      f.1,
      privates-inside q (state a.out.now a.h) _ c.release_values-q.ensures
          (sym c.has_privates.ensures ∙ c.if-not-has_privates.false) g.result g.ensures
          c.privates.result e p.6,
    )

pub returns : goal.returns
returns c =
    let a = c.args in
    let g = c.given_back-back in
    let n = c.privates in
    privates-too (listed (goal.at.returns c).After-publics_of-count) (state a.out.now a.h) _ c.release_values-q.ensures
    (sym c.has_privates.ensures ∙ c.if-not-has_privates.false) g.result g.ensures n.result
    (private_count (goal.at.returns c).After-privates) _ c.release_values.ensures
