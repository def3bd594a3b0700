-- What an image that is right in every record tells of a transition's arcs.
use Rattle.std.proofs.Common.{◌≡◌, ℕ, ◌+◌, ◌-◌, ◌^◌, ◌<◌, Bool, true, ◌||◌, List, length, refl, ap, arith}
use lib.Seq.{slice, length-slice}
use Rattle.lists.specs.Lists.{word, ascends}
use Rattle.net.specs.Image.{place_count_of, transition_count, record_offset, inputs_start, outputs_start, inputs_at, outputs_at, record_right}
use Rattle.net.specs.Inner.Arcs.{Header, ArcsOf}
use Rattle.net.proofs.Images.{header, record_of, arcs_within, inputs_ascend, outputs_ascend}
use Rattle.summary.specs.Inner.Marks.{Sound, is_touched, is_worked_afresh}

module _ (w b : List ℕ) (S : Sound w b) (t : ℕ) (h : t < transition_count w) where
  pub both-ascend : (ascends (place_count_of w) 0 (inputs_at w t) ≡ true) × (ascends (place_count_of w) 0 (outputs_at w t) ≡ true)
  both-ascend = let r = record_of w S.records t h in (inputs_ascend w t r, outputs_ascend w t r)

  -- what the arcs of a transition are asked for
  pub asked : Header w × (t < transition_count w) × (record_right w t ≡ true)
  asked = (header w S.header, h, record_of w S.records t h)

-- fewer inputs than a word may count
pub few-inputs : (w : List ℕ) (t : ℕ) (ins outs : List ℕ) → ArcsOf w t ins outs → word w (record_offset w t + 4) < 2 ^ 32 → length ins < 2 ^ 32
few-inputs w t ins outs a s =
    let l = arcs_within w t a.right in
    let n : length (slice (inputs_start w t) (outputs_start w t) w) ≡ outputs_start w t - inputs_start w t
    = length-slice (inputs_start w t) (outputs_start w t) w (omega arith) in
    omega (arith, ap length a.inputs-are, n, s)

-- by the places of both
pub afresh-is : (w b : List ℕ) (t : ℕ) (ins outs : List ℕ) → ArcsOf w t ins outs → (all : Bool)
    → is_worked_afresh w b all t ≡ (all || (is_touched b ins || is_touched b outs))
unfolding is_worked_afresh
afresh-is w b t ins outs a all = rw (a.inputs-are, a.outputs-are) refl
