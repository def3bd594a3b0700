use mathlib.Core.Path.{◌≡◌, sym, ap, subst, ◌∙◌}
use native.Mathlib.Omega.{arith}
use Rattle.lists.proofs.Tests.{same-yes}
use Rattle.scheme.specs.Words.{node_kind}
use Rattle.builder.specs.Inner.Writing.{Inside}
use Rattle.builder.specs.Inner.Parts.{put}
use Rattle.places.proofs.ByWords.{other-call, choice-inside}
use Rattle.builder.proofs.NodeArrows.{all-stop, all-choice, all_new, all-call}
use Rattle.builder.proofs.nodes.node.Goals.{In_default}
use Rattle.builder.proofs.nodes.node.Goals as goal

pub stop-requires : goal.stop-requires
stop-requires c =
    let a = c.args in
    let p = c.requires in
    let w = a.table.now in
    let e = sym c.field3-kind.ensures.is ∙ c.in-0.is in
    (p.0, p.1, same-yes (node_kind w a.n) 0 e, subst Inside (ap (put w a.out.now a.h) (all-stop w p.0.accepted a.n p.1 e)) p.2)

pub returns-in-0 : goal.returns-in-0
returns-in-0 c =
    let a = c.args in
    let p = c.requires in
    let w = a.table.now in
    let e = sym c.field3-kind.ensures.is ∙ c.in-0.is in
    c.stop.ensures ∙ sym (ap (put w a.out.now a.h) (all-stop w p.0.accepted a.n p.1 e))

pub silents-requires : goal.silents-requires
silents-requires c =
    let a = c.args in
    let p = c.requires in
    let w = a.table.now in
    let e = sym c.field3-kind.ensures.is ∙ c.in-1.is in
    let f = c.field3-first in
    let g = c.field3-second in (
      p.0,
      p.1,
      omega (arith, choice-inside w p.0.accepted a.n p.1 e, f.ensures.is, g.ensures.is),
      subst Inside (ap (put w a.out.now a.h) (all-choice w p.0.accepted a.n p.1 f.result g.result e f.ensures.is g.ensures.is))
          p.2,
    )

pub returns-in-1 : goal.returns-in-1
returns-in-1 c =
    let a = c.args in
    let p = c.requires in
    let w = a.table.now in
    let e = sym c.field3-kind.ensures.is ∙ c.in-1.is in
    let f = c.field3-first in
    let g = c.field3-second in
    c.silents.ensures
    ∙ sym (ap (put w a.out.now a.h) (all-choice w p.0.accepted a.n p.1 f.result g.result e f.ensures.is g.ensures.is))

pub news-requires : goal.news-requires
news-requires c =
    let a = c.args in
    let p = c.requires in
    let w = a.table.now in
    let e = sym c.field3-kind.ensures.is ∙ c.in-2.is in
    (p.0, p.1, same-yes (node_kind w a.n) 2 e, subst Inside (ap (put w a.out.now a.h) (all_new w p.0.accepted a.n p.1 e)) p.2, p.3)

pub returns-in-2 : goal.returns-in-2
returns-in-2 c =
    let a = c.args in
    let p = c.requires in
    let w = a.table.now in
    let e = sym c.field3-kind.ensures.is ∙ c.in-2.is in
    c.news.ensures ∙ sym (ap (put w a.out.now a.h) (all_new w p.0.accepted a.n p.1 e))

-- a node of any other kind is a Call
call_kind : (c : In_default) → node_kind c.args.table.now c.args.n ≡ 3
call_kind c =
    let k = c.field3-kind.ensures.is in
    other-call c.args.table.now c.requires.0.accepted c.args.n c.requires.1 (λ e. omega (arith, k, e))
    (λ e. omega (arith, k, e)) (λ e. omega (arith, k, e))

pub call-requires : goal.call-requires
call-requires c =
    let a = c.args in
    let p = c.requires in
    let w = a.table.now in
    let e = call_kind (goal.at.call-requires c).In_default in
    (p.0, p.1, same-yes (node_kind w a.n) 3 e, subst Inside (ap (put w a.out.now a.h) (all-call w p.0.accepted a.n p.1 e)) p.2)

pub returns-in_default : goal.returns-in_default
returns-in_default c =
    let a = c.args in
    let p = c.requires in
    let w = a.table.now in
    let e = call_kind (goal.at.returns-in_default c).In_default in
    c.call.ensures ∙ sym (ap (put w a.out.now a.h) (all-call w p.0.accepted a.n p.1 e))
