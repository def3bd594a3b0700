-- The firing's places are told from the others, the transitions that have one are worked out, and the places get the bytes that the firing leaves.
use Rattle.std.proofs.Common.{ℕ, false, List, length, ap, ◌∙◌}
use Rattle.net.specs.Image.{inputs_at, outputs_at}
use Rattle.net.specs.Firing.{moved}
use Rattle.net.proofs.Marks.{length-put}
use Rattle.net.proofs.Images.{both_ascend}
use Rattle.net.proofs.Puts.{two-puts-length}
use Rattle.summary.specs.Summary.{shares}
use Rattle.summary.specs.Inner.Marks.{missing_in, is_worked_afresh}
use Rattle.summary.proofs.Sound.{asked, both-ascend}
use Rattle.summary.proofs.Entries.{marking-low, worked-out}
use Rattle.summary.proofs.Painting.{two-puts-are, put_back, missing-is, touched-shares}
use Rattle.summary.proofs.keep.Goals as goal

pub arcs_of-arcs-requires : goal.arcs_of-arcs-requires
arcs_of-arcs-requires c = asked _ _ c.requires.0 _ c.requires.2

pub put_all-requires : goal.put_all-requires
put_all-requires c = (both_ascend _ _ _ _ _ c.arcs_of-arcs.ensures c.requires.0.places).0

pub put_all-requires-2 : goal.put_all-requires-2
put_all-requires-2 c =
    (both_ascend _ _ _ _ _ c.arcs_of-arcs.ensures (ap length c.put_all.ensures ∙ length-put 2 _ _ ∙ c.requires.0.places)).1

pub put_all-requires-3 : goal.put_all-requires-3
put_all-requires-3 c =
    let a = c.arcs_of-arcs.ensures in
    let told = two-puts-are 2 3 _ _ _ _ _ _ _ c.put_all.ensures c.put_all-2.ensures a.inputs-are a.outputs-are in
    (both_ascend _ _ _ _ _ a (ap length told ∙ two-puts-length 2 3 _ _ _ ∙ c.requires.0.places)).0

pub put_all-requires-4 : goal.put_all-requires-4
put_all-requires-4 c =
    let a = c.arcs_of-arcs.ensures in
    let told = two-puts-are 2 3 _ _ _ _ _ _ _ c.put_all.ensures c.put_all-2.ensures a.inputs-are a.outputs-are in
    (both_ascend _ _ _ _ _ a (ap length c.put_all-3.ensures ∙ length-put 0 _ _ ∙ ap length told ∙ two-puts-length 2 3 _ _ _ ∙ c.requires.0.places)).1

pub returns : goal.returns
returns c =
    let s = c.requires.0 in
    let w = c.args.image.now in
    let m = c.args.marking.now in
    let t = c.args.transition in
    let I = inputs_at w t in
    let O = outputs_at w t in
    let a = c.arcs_of-arcs.ensures in
    let told = two-puts-are 2 3 _ _ _ _ _ _ _ c.put_all.ensures c.put_all-2.ensures a.inputs-are a.outputs-are in
    let low = marking-low _ _ c.requires.3 in
    let back = two-puts-are 0 1 _ _ _ _ _ _ _ c.put_all-3.ensures c.put_all-4.ensures a.inputs-are a.outputs-are in (
      back ∙ ap (λ (l : List ℕ). moved l I O) told ∙ put_back m I O,
      c.refresh.ensures
          ∙ worked-out w (moved m I O) _ _ (shares w t) _ c.requires.1.words
          (λ u l. let a = both-ascend _ _ s u l in
          ap (λ (x : List ℕ). is_worked_afresh w x false u) told ∙ touched-shares w m t u low _ s.places a.0 a.1)
          (λ u l. ap (λ (x : List ℕ). missing_in x (inputs_at w u)) told
          ∙ missing-is m I O (inputs_at w u) _ s.places (both-ascend _ _ s u l).0 low),
    )
