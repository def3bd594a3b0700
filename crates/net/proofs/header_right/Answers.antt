-- Each return is one test of the definition, in its order.
use Rattle.std.proofs.Common.{sym, ap, ◌∙◌, arith}
use Rattle.lists.specs.Lists.{ascends}
use Rattle.net.specs.Image.{place_count_of, records_start}
use Rattle.net.proofs.Images.{header-short, header-first, header-second, header-third, header-length, header-list, part}
use Rattle.net.proofs.header_right.Goals as goal

pub returns-then-image-lt8 : goal.returns-then-image-lt8
returns-then-image-lt8 c = sym (header-short _ c.if-image-lt8.true)

pub returns-then-image-ne8 : goal.returns-then-image-ne8
returns-then-image-ne8 c = sym (header-first _ c.if-image-lt8.false c.if-image-ne8.true)

pub returns-then-image-records : goal.returns-then-image-records
returns-then-image-records c = sym (header-second _ c.if-image-lt8.false c.if-image-ne8.false c.if-image-records.true)

pub returns-then-image-arcs : goal.returns-then-image-arcs
returns-then-image-arcs c =
    let s = c.arcs_start-arcs.ensures in
    sym (header-third _ c.if-image-lt8.false c.if-image-ne8.false
    c.if-image-records.false (λ p. c.if-image-arcs.true (p ∙ sym s.is)))

pub returns-then-image-length_given : goal.returns-then-image-length_given
returns-then-image-length_given c =
    let s = c.arcs_start-arcs.ensures in
    sym
    (header-length _ c.if-image-lt8.false
    c.if-image-ne8.false c.if-image-records.false (c.if-image-arcs.false ∙ s.is)
    (λ p. c.if-image-length_given.true (p ∙ sym c.length_given.ensures)))

pub returns : goal.returns
returns c =
    let s = c.arcs_start-arcs.ensures in
    c.rising.ensures
    ∙ ap (ascends (place_count_of c.args.image.now) 0) (part c.args.image.now 8 (records_start c.args.image.now) (omega arith))
    ∙ sym (header-list _ c.if-image-lt8.false
    c.if-image-ne8.false c.if-image-records.false
    (c.if-image-arcs.false ∙ s.is) (c.if-image-length_given.false ∙ c.length_given.ensures))
