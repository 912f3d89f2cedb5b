-- Each public entry's contract determines its answer: two answers that it allows for the same inputs are equal. Each contract says what
-- the answer is, or its one number, so this is one argument for all of them. No entry here changes what it is lent.
use mathlib.Core.Path.{◌≡◌, sym, ap, ◌∙◌}
use mathlib.Core.List.{List}
use Prim.Native.Nat.{ℕ}
use Rattle.net.specs.declared.interface.Node.{Node}
use Rattle.net.specs.declared.interface.Link.{Link}
use Rattle.net.specs.declared.interface.Interface.{Interface}
use Rattle.net.specs.Told.{unplaced as placed_nowhere}
use Rattle.net.specs.declared.refusal.Refusal.{Refusal}
use Rattle.net.specs.declared.refusal.PlacedRefusal.{PlacedRefusal}
use Rattle.net.proofs.Told.{told_once, number_told_once, verdict_once}
use Rattle.net.proofs.failure.check_failure.Reads as check_failure_contract
use Rattle.net.proofs.check.check_network.Reads as check_network_contract
use Rattle.net.proofs.check.descends.Reads as descends_contract
use Rattle.net.proofs.check.lighter_twin.Reads as lighter_twin_contract
use Rattle.net.proofs.check.end_at.Reads as end_at_contract
use Rattle.net.proofs.check.bad_weight.Reads as bad_weight_contract
use Rattle.net.proofs.check.bad_node_count.Reads as bad_node_count_contract
use Rattle.net.proofs.refusal.unplaced.Reads as unplaced_contract
use Rattle.net.proofs.entry.onward.Reads as onward_contract
use Rattle.net.proofs.failure.fails.Reads as fails_contract
use Rattle.net.proofs.failure.blocked.Reads as blocked_contract
use Rattle.net.proofs.interface.link_of.Reads as link_of_contract
use Rattle.net.proofs.lent_rows.LentRows.tail_of.Reads as tail_of_contract
use Rattle.net.proofs.lent_rows.LentRows.head_of.Reads as head_of_contract
use Rattle.net.proofs.interface.reverse_of.Reads as reverse_of_contract

-- A contract is read as what it tells a caller (`Learnt`, from the source's `ensures`) of the inputs, the answer and the lent values
-- at exit, under any lifetimes.
abbrev pub Determined {ℓ ℓ' κ κ'} : {Lifetimes : Type ℓ} {Inputs : Lifetimes → Type ℓ'} {Answer : Lifetimes → Type κ}
    {Exit : Lifetimes → Type κ'}
    → ((a : Lifetimes) → Inputs a → Answer a → Exit a → Type 0) → Type (ℓ ⊔ ℓ' ⊔ κ ⊔ κ')
Determined {Lifetimes} {Inputs} {Answer} {Exit} Allows =
    (a : Lifetimes) (inputs : Inputs a) (x y : Answer a) (e f : Exit a) → Allows a inputs x e → Allows a inputs y f → x ≡ y

-- As `Determined`, of the bytes at exit.
abbrev pub Leaves {ℓ ℓ' κ κ'} : {Lifetimes : Type ℓ} {Inputs : Lifetimes → Type ℓ'} {Answer : Lifetimes → Type κ}
    {Exit : Lifetimes → Type κ'}
    → ((a : Lifetimes) → Inputs a → Answer a → Exit a → Type 0) → ((a : Lifetimes) → Exit a → List ℕ) → Type (ℓ ⊔ ℓ' ⊔ κ ⊔ κ')
Leaves {Lifetimes} {Inputs} {Answer} {Exit} Allows bytes =
    (a : Lifetimes) (inputs : Inputs a) (x y : Answer a) (e f : Exit a) → Allows a inputs x e → Allows a inputs y f → bytes a e ≡ bytes a f

-- two that are one third are one
pub agree {ℓ} : {A : Type ℓ} {x y z : A} → x ≡ z → y ≡ z → x ≡ y
agree p q = p ∙ sym q

pub check_network : Determined check_network_contract.Learnt
check_network a inputs x y e f p q = told_once x y (agree p q)

pub check_failure : Determined check_failure_contract.Learnt
check_failure a inputs x y e f p q = number_told_once x y (agree p q)

pub descends : Determined descends_contract.Learnt
descends a inputs x y e f p q = agree p q

pub lighter_twin : Determined lighter_twin_contract.Learnt
lighter_twin a inputs x y e f p q = agree p q

pub end_at : Determined end_at_contract.Learnt
end_at a inputs x y e f p q = agree p q

pub bad_weight : Determined bad_weight_contract.Learnt
bad_weight a inputs x y e f p q = agree p q

pub bad_node_count : Determined bad_node_count_contract.Learnt
bad_node_count a inputs x y e f p q = agree p q

pub onward : Determined onward_contract.Learnt
onward a inputs x y e f p q = agree p q

pub fails : Determined fails_contract.Learnt
fails a inputs x y e f p q = agree p q

pub blocked : Determined blocked_contract.Learnt
blocked a inputs x y e f p q = agree p q

pub unplaced : Determined unplaced_contract.Learnt
unplaced a inputs x y e f p q = verdict_once x y (agree p q)

-- a refusal that names no place, by the law of its conversion
pub unplaced_refusal : (refusal : Refusal) {x y : PlacedRefusal} → x ≡ placed_nowhere refusal → y ≡ placed_nowhere refusal → x ≡ y
unplaced_refusal refusal p q = agree p q

-- a link, a node and an interface are their number
abbrev link_numbered : ℕ → Link
link_numbered k = record { 0 = k }

abbrev node_numbered : ℕ → Node
node_numbered i = record { 0 = i }

abbrev interface_numbered : ℕ → Interface
interface_numbered h = record { 0 = h }

pub link_of : Determined link_of_contract.Learnt
link_of a inputs x y e f p q = ap link_numbered (agree p q)

pub tail_of : Determined tail_of_contract.Learnt
tail_of a inputs x y e f p q = ap node_numbered (agree p q)

pub head_of : Determined head_of_contract.Learnt
head_of a inputs x y e f p q = ap node_numbered (agree p q)

pub reverse_of : Determined reverse_of_contract.Learnt
reverse_of a inputs x y e f p q = ap interface_numbered (agree p q)
