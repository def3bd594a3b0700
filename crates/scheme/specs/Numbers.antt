-- The numbers of the kinds of nodes and branches: "0 Stop; 1 Choice; 2 New; 3 Call", "0 silent, 1 send, 2 receive".
use Rattle.std.specs.Prelude.{◌≡◌, ℕ, ◌<◌, Option, MatchOption}
use Rattle.scheme.specs.declared.fields.NodeKind.{NodeKind}
use Rattle.scheme.specs.declared.fields.NodeKind.TheVariants.{Stop, Choice, New, Call}
use Rattle.scheme.specs.declared.fields.BranchKind.{BranchKind}
use Rattle.scheme.specs.declared.fields.BranchKind.TheVariants.{Silent, Send, Receive}

abbrev pub node_number : NodeKind → ℕ
node_number Stop = 0
node_number Choice = 1
node_number New = 2
node_number Call = 3

abbrev pub branch_number : BranchKind → ℕ
branch_number Silent = 0
branch_number Send = 1
branch_number Receive = 2

-- the kind has the number; no kind has a number above
abbrev pub NodeKindOf : ℕ → Option NodeKind → Type 0
NodeKindOf n r = MatchOption r (3 < n) (λ kind. n ≡ node_number kind)

abbrev pub BranchKindOf : ℕ → Option BranchKind → Type 0
BranchKindOf n r = MatchOption r (2 < n) (λ kind. n ≡ branch_number kind)
