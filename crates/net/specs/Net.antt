-- An abstract net, and its image (document 01, Net image and firing).
use Rattle.std.specs.Prelude.{Bool, ◌&&◌, List, [], ◌∷◌, ◌++◌, map, ℕ, ◌+◌, ◌*◌, length, get_or}
use Rattle.lists.specs.Lists.{every, flat, ascends, total}
use Rattle.net.specs.Image.{Label, label_of}

pub record Transition : Type 0 where
  pub label : Label
  pub inputs : List ℕ
  pub outputs : List ℕ

pub record Net : Type 0 where
  pub places : ℕ
  pub initial : List ℕ
  pub transitions : List Transition

-- a transition without arcs, which stands past the end of a list of them
abbrev pub blank : Transition
blank = record { label = label_of 0 0 0; inputs = []; outputs = [] }

abbrev pub transition_at : Net → ℕ → Transition
transition_at net k = get_or net.transitions k blank

-- "Inputs then outputs" (document 01, Net image and firing)
abbrev pub arc_words : Transition → List ℕ
arc_words t = t.inputs ++ t.outputs

-- "A transition has 6 words: label (3), arc start (an offset in the image; arcs follow in transition order), input and output counts."
-- (document 01, Net image and firing)
abbrev pub record_words : ℕ → Transition → List ℕ
record_words start t = t.label.kind ∷ t.label.a ∷ t.label.b ∷ start ∷ length t.inputs ∷ length t.outputs ∷ []

unfoldable pub records_from : ℕ → List Transition → List ℕ
records_from start [] = []
records_from start (t ∷ ts) = record_words start t ++ records_from (start + length (arc_words t)) ts

abbrev pub records_offset : Net → ℕ
records_offset net = 8 + length net.initial

abbrev pub arcs_offset_in : Net → ℕ
arcs_offset_in net = records_offset net + 6 * length net.transitions

abbrev pub input_total : Net → ℕ
input_total net = total (map (λ t. length t.inputs) net.transitions)

abbrev pub output_total : Net → ℕ
output_total net = total (map (λ t. length t.outputs) net.transitions)

-- "Header: places, transitions, input arcs, output arcs, initial tokens m, then offsets 8, 8+m and 8+m+6t, t the transition count."
-- (document 01, Net image and firing)
abbrev pub header_words : Net → List ℕ
header_words net =
    net.places
    ∷ length net.transitions
    ∷ input_total net
    ∷ output_total net
    ∷ length net.initial
    ∷ 8
    ∷ records_offset net
    ∷ arcs_offset_in net
    ∷ []

unfoldable pub encode : Net → List ℕ
encode net = header_words net ++ (net.initial ++ (records_from (arcs_offset_in net) net.transitions ++ flat arc_words net.transitions))

-- the arcs of a transition "ascend strictly and name places" (document 01, Net image and firing)
abbrev pub ascending : ℕ → Transition → Bool
ascending places t = ascends places 0 t.inputs && ascends places 0 t.outputs

-- a net whose lists all do
unfoldable pub is_ascending : Net → Bool
is_ascending net = ascends net.places 0 net.initial && every (ascending net.places) net.transitions
