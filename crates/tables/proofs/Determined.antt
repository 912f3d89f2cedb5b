-- The contracts of `key_links`, of the row look-up and of the builder determine their answers and what the builder leaves in the lent
-- tables: two answers that a contract allows for the same inputs are equal. After a refusal the contract says every part; else a set is
-- told by its members, and a table by its bytes in the rows, each the byte of one entry, and by the bytes beyond them.
use Prim.Native.Nat.{ℕ}
use mathlib.Core.Path.{◌≡◌, sym, ap, ◌∙◌}
use mathlib.Core.List.{List}
use Rattle.std.specs.Prelude.{Result, Ok, Err}
use native.Mathlib.Decide.{ℕ_discrete}
use Rattle.graph.specs.Network.{WellFormed}
use Rattle.graph.proofs.Sets.{set_one}
use Rattle.net.specs.Refusals.{accepted}
use Rattle.net.specs.Rows.{Rows, network_of}
use Rattle.net.specs.Told.{number_told}
use Rattle.net.specs.Verdict.{Verdict}
use Rattle.net.specs.declared.refusal.Refusal.{Refusal}
use Rattle.net.specs.declared.refusal.PlacedRefusal.{PlacedRefusal}
use Rattle.net.proofs.Accepted.{well_formed}
use Rattle.net.proofs.Bytes.{byte_one}
use Rattle.net.proofs.Told.{number_refuses, refusal_once, number_told_once}
use Rattle.tables.specs.Lent.{LentTables}
use Rattle.tables.specs.Key.{KeyLinks, key_links_told, KeyLinksAnswer}
use Rattle.tables.specs.Build.{build_verdict, BuildAnswer}
use Rattle.tables.specs.Row.{row_check, row_of}
use Rattle.tables.proofs.Filling.{filled_one}
use Rattle.tables.proofs.BuildVerdicts.{build_accepted}

-- two of the builder's answers, with the tables that they leave
pub record SameBuild (x y : Verdict) (T U : LentTables) : Type 0 where
  pub verdict : x ≡ y
  pub tables : T ≡ U

-- what `key_links` tells determines its answer
pub key_links_told_once : (x y : Result ℕ PlacedRefusal) → key_links_told x ≡ key_links_told y → x ≡ y
key_links_told_once (Ok a) (Ok b) e = ap Ok (ap (λ (r : KeyLinks). r.links) e)
key_links_told_once (Ok a) (Err b) e = absurd (number_refuses b.refusal (sym (ap (λ (r : KeyLinks). r.number) e)))
key_links_told_once (Err a) (Ok b) e = absurd (number_refuses a.refusal (ap (λ (r : KeyLinks). r.number) e))
key_links_told_once (Err a) (Err b) e =
    ap Err (refusal_once a b (ap (λ (r : KeyLinks). record { number = r.number; place = r.place }) e))

module _ (R : Rows) where
  pub key_links_answer_one : {h d : ℕ} {x y : KeyLinks} → KeyLinksAnswer R h d x → KeyLinksAnswer R h d y → x ≡ y
  key_links_answer_one {x = x} {y = y} a b =
      let number : x.number ≡ y.number = a.number ∙ sym b.number in
      let place : x.place ≡ y.place = a.place ∙ sym b.place in
      elim (ℕ_discrete x.number accepted) [
        | yes e ↦ equal number place (set_one (a.keys e) (b.keys (sym number ∙ e)))
        | no n ↦ equal number place (a.refused n ∙ sym (b.refused (λ e. n (number ∙ e))))
      ]
    where
      equal : x.number ≡ y.number → x.place ≡ y.place → x.links ≡ y.links → x ≡ y
      equal number place links = λ t. record { number = number t; place = place t; links = links t }

  module _ (before : LentTables) where
    -- the builder accepts only networks that the mathematics speaks of
    built_well_formed : {r : Verdict} → r ≡ build_verdict R before → r.number ≡ accepted → WellFormed (network_of R)
    built_well_formed v e = well_formed R (build_accepted R before v e)

    pub build_answer_one : {x y : Verdict} {T U : LentTables} → BuildAnswer R before x T → BuildAnswer R before y U → SameBuild x y T U
    build_answer_one {x} {y} {T} {U} a b =
        let verdict : x ≡ y = a.verdict ∙ sym b.verdict in
        let number : x.number ≡ y.number = ap (λ (r : Verdict). r.number) verdict in
        elim (ℕ_discrete x.number accepted) [
          | yes e ↦
              let W = built_well_formed a.verdict e in
              let s = a.built e in
              let t = b.built (sym number ∙ e) in
              record {
                verdict = verdict;
                tables = equal
                    (filled_one (λ i d u v node destination p q. byte_one W p q) s.routes t.routes)
                    (filled_one (λ h d u v interface destination p q. byte_one W p q) s.forwards t.forwards)
                    (filled_one (λ h d u v interface destination p q. byte_one W p q) s.backwards t.backwards);
              }
          | no n ↦ record { verdict = verdict; tables = a.refused n ∙ sym (b.refused (λ e. n (number ∙ e))) }
        ]
      where
        equal : T.routing ≡ U.routing → T.forwarding ≡ U.forwarding → T.backwarding ≡ U.backwarding → T ≡ U
        equal routing forwarding backwarding =
            λ t. record { routing = routing t; forwarding = forwarding t; backwarding = backwarding t }

-- the row look-up and its check say what they answer
module _ (table : List ℕ) (n i : ℕ) where
  pub row_check_one : {x y : Result Unit Refusal} → number_told x ≡ row_check table n i → number_told y ≡ row_check table n i → x ≡ y
  row_check_one {x} {y} p q = number_told_once x y (p ∙ sym q)

  pub row_of_one : {x y : List ℕ} → x ≡ row_of table n i → y ≡ row_of table n i → x ≡ y
  row_of_one p q = p ∙ sym q
