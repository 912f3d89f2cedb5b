-- The clauses on writers and readers determine what they speak of, where the writer says what it holds and the reader what it has left: two
-- outcomes that they allow from the same are equal. What they leave open: what a writer has got, and how much a reader has given, after an
-- error; and the bytes past those that were read, which std's `read` may overwrite.
use Rattle.std.proofs.Common.{◌≡◌, ℕ, ◌+◌, ◌<◌, ◌≤◌, Bool, true, false, List, [], ◌++◌, None, Some, Ok, refl, sym, ap, subst, ◌∙◌, length, take, drop, length-append, length-take-le, take_at, drop_at, append-nil, arith}
use Rattle.std.specs.declared.option.Option.{Option}
use Rattle.std.specs.declared.io.traits.Read.{Ghosts}
use Rattle.std.specs.Io.KnownBytes.{Appends, Consumes, IsAtEnd}
use denote.RattleType.{RattleType}
use denote.Param.Laws.{Laws}
use denote.MutBor.{MutBor}
use contract.Lifetimes.{Lfts}
use mir.Syntax.{Dict}
use Rattle.text.specs.Taken.{TakesFewer}
use Rattle.text.proofs.read_front.Reads as read_front_contract
use Rattle.text.proofs.read.Reads as read_contract

-- Writers: two contents that `Appends` allows after the same content and the same bytes. The clause on `Ok` of `text`, `decimal`,
-- `number_and_place`, `hex` and `naming::print_failure` is `Appends`, and the bytes in it are a function of the arguments.
pub appended : (held : List ℕ) (b c : Option (List ℕ)) (bytes : List ℕ) → Appends (Some held) b bytes → Appends (Some held) c bytes → b ≡ c
appended held None c bytes p q = absurd p
appended held (Some y) None bytes p q = absurd q
appended held (Some y) (Some z) bytes p q = ap Some (p ∙ sym q)

-- Readers. Two lists in two parts each, the first of the same length, have the same parts where the lists are the same.
same_front : (xs ys rs ss : List ℕ) → length xs ≡ length ys → xs ++ rs ≡ ys ++ ss → xs ≡ ys
same_front xs ys rs ss long same = sym (take_at xs rs (length xs) refl) ∙ ap (take (length xs)) same ∙ take_at ys ss (length xs) (sym long)

same_rest : (xs ys rs ss : List ℕ) → length xs ≡ length ys → xs ++ rs ≡ ys ++ ss → rs ≡ ss
same_rest xs ys rs ss long same = sym (drop_at xs rs (length xs) refl) ∙ ap (drop (length xs)) same ∙ drop_at ys ss (length xs) (sym long)

-- how many bytes were read and how many are left are together how many there were
counts : (n : ℕ) (given bytes rest : List ℕ) → n ≤ length bytes → given ≡ take n bytes ++ rest → length given ≡ n + length rest
counts n given bytes rest within taken = ap length taken ∙ length-append (take n bytes) rest ∙ ap (λ k. k + length rest) (length-take-le n bytes within)

-- a count that is short of the room leaves nothing, so no other count is above it
same_count : (n m given room r s : ℕ) → n ≤ room → m ≤ room → given ≡ n + r → given ≡ m + s → (n < room → r ≡ 0) → (m < room → s ≡ 0) → n ≡ m
same_count n m given room r s n_within m_within n_sum m_sum n_end m_end = grind arith

same_taken : (n m : ℕ) (given b c r s : List ℕ) → n ≡ m → n ≤ length b → m ≤ length c → given ≡ take n b ++ r → given ≡ take m c ++ s
    → (take n b ≡ take m c) × (r ≡ s)
same_taken n m given b c r s same n_within m_within p q =
    let long : length (take n b) ≡ length (take m c) = length-take-le n b n_within ∙ same ∙ sym (length-take-le m c m_within) in
    let both : take n b ++ r ≡ take m c ++ s = sym p ∙ q in
    (same_front (take n b) (take m c) r s long both, same_rest (take n b) (take m c) r s long both)

-- what `read_front` says on `Ok` of what was left before and after, the bytes and the count
abbrev Front : Option (List ℕ) → Option (List ℕ) → List ℕ → ℕ → Type 0
Front old new bytes n = (n ≤ length bytes) × Consumes old new (take n bytes) × (n < length bytes → IsAtEnd new)

same_reading : (given b c : List ℕ) (r s : Option (List ℕ)) (n m : ℕ) → length b ≡ length c → Front (Some given) r b n → Front (Some given) s c m
    → (n ≡ m) × (take n b ≡ take m c) × (r ≡ s)
same_reading given b c None s n m long p q = absurd p.1
same_reading given b c (Some r) None n m long p q = absurd q.1
same_reading given b c (Some r) (Some s) n m long p q =
    let n_end : n < length b → length r ≡ 0 = λ short. ap length (p.2 short) in
    let m_end : m < length b → length s ≡ 0 = λ short. ap length (q.2 (subst (λ k. m < k) long short)) in
    let m_within : m ≤ length b = subst (λ k. m ≤ k) (sym long) q.0 in
    let n_sum = counts n given b r p.0 p.1 in
    let m_sum = counts m given c s q.0 q.1 in
    let same : n ≡ m = same_count n m (length given) (length b) (length r) (length s) p.0 m_within n_sum m_sum n_end m_end in
    let taken = same_taken n m given b c r s same p.0 q.0 p.1 q.1 in
    (same, taken.0, ap Some taken.1)

-- what `read` says on `Ok` of what was left before and after, the bytes and the answer
abbrev Whole : Option (List ℕ) → Option (List ℕ) → List ℕ → Bool → Type 0
Whole old new bytes whole =
    (whole ≡ true → Consumes old new bytes) × (whole ≡ false → IsAtEnd new) × (whole ≡ false → TakesFewer old new bytes)

-- bytes that were filled from an input are no more than it had, and those that it did not fill are more
filled_or_cut : (given b c : List ℕ) (r s : Option (List ℕ)) → length b ≡ length c → Consumes (Some given) r b → IsAtEnd s → TakesFewer (Some given) s c → ⊥
filled_or_cut given b c None s long p end q = p
filled_or_cut given b c (Some r) None long p end q = q.2
filled_or_cut given b c (Some r) (Some s) long p end q =
    let n = q.0 in
    let fewer : n < length c = q.1 in
    let cut : length given ≡ n + length s = counts n given c s (omega arith) q.2 in
    let none : length s ≡ 0 = ap length end in
    let whole : length given ≡ length b + length r = ap length p ∙ length-append b r in
    omega arith

same_answer : (given b c : List ℕ) (r s : Option (List ℕ)) (x y : Bool) → length b ≡ length c → Whole (Some given) r b x → Whole (Some given) s c y → x ≡ y
same_answer given b c r s true true long p q = refl
same_answer given b c r s false false long p q = refl
same_answer given b c r s true false long p q = absurd (filled_or_cut given b c r s long (p.0 refl) (q.1 refl) (q.2 refl))
same_answer given b c r s false true long p q = absurd (filled_or_cut given c b s r (sym long) (q.0 refl) (p.1 refl) (p.2 refl))

same_bytes : (given b c : List ℕ) (r s : Option (List ℕ)) → length b ≡ length c → Consumes (Some given) r b → Consumes (Some given) s c → (b ≡ c) × (r ≡ s)
same_bytes given b c None s long p q = absurd p
same_bytes given b c (Some r) None long p q = absurd q
same_bytes given b c (Some r) (Some s) long p q =
    let both : b ++ r ≡ c ++ s = sym p ∙ q in
    (same_front b c r s long both, ap Some (same_rest b c r s long both))

-- where fewer were left than were lent, all that there was stands at the front, and nothing is left
stands : (given c : List ℕ) (s : Option (List ℕ)) → IsAtEnd s → TakesFewer (Some given) s c → (take (length given) c ≡ given) × (s ≡ Some [])
stands given c None end q = absurd q.2
stands given c (Some s) end q =
    let n = q.0 in
    let fewer : n < length c = q.1 in
    let cut : length given ≡ n + length s = counts n given c s (omega arith) q.2 in
    let none : length s ≡ 0 = ap length end in
    let long : length given ≡ n = omega arith in
    let front : given ≡ take n c = q.2 ∙ ap (λ l. take n c ++ l) end ∙ append-nil (take n c) in
    (ap (λ k. take k c) long ∙ sym front, ap Some end)

-- A contract is read as what it tells a caller (`Learnt`, from the source's `ensures`) of the inputs, the answer and the lent values at exit,
-- under any lifetimes. What is lent to a function that reads: the reader and the bytes.
abbrev pub Lent : RattleType → Type 0
Lent R = MutBor R.Denot × (MutBor (List ℕ) × Unit {0})

-- `read_front`: two counts from the same known input into as many bytes are equal, with the same bytes at the front and as much left. The
-- bytes past the count are open.
pub read_front : (R : RattleType) (laws : Laws R) (reader : Ghosts R.Denot) (dict : Dict) (a : Lfts 3) (inputs : Lent R) (given : List ℕ)
    (n m : ℕ) (e f : Lent R) → reader.remaining inputs.0.now ≡ Some given → length e.1.0.now ≡ length f.1.0.now
    → read_front_contract.Learnt R laws reader dict a inputs (Ok n) e → read_front_contract.Learnt R laws reader dict a inputs (Ok m) f
    → (n ≡ m) × (take n e.1.0.now ≡ take m f.1.0.now) × (reader.remaining e.0.now ≡ reader.remaining f.0.now)
read_front R laws reader dict a inputs given n m e f known long p q =
    let at : Lent R → ℕ → Option (List ℕ) → Type 0 = λ exit k old. Consumes old (reader.remaining exit.0.now) (take k exit.1.0.now) in
    same_reading given e.1.0.now f.1.0.now (reader.remaining e.0.now) (reader.remaining f.0.now) n m long
    (p.0, subst (at e n) known p.1.0, p.1.1.0) (q.0, subst (at f m) known q.1.0, q.1.1.0)

-- what `read` tells, from a known input
whole : (R : RattleType) (laws : Laws R) (reader : Ghosts R.Denot) (dict : Dict) (a : Lfts 3) (inputs : Lent R) (given : List ℕ)
    (x : Bool) (e : Lent R) → reader.remaining inputs.0.now ≡ Some given → read_contract.Learnt R laws reader dict a inputs (Ok x) e
    → Whole (Some given) (reader.remaining e.0.now) e.1.0.now x
whole R laws reader dict a inputs given x e known p =
    subst (λ old. Whole old (reader.remaining e.0.now) e.1.0.now x) known (p.0, p.1.0, p.1.1.0)

-- `read`: two answers from the same known input into as many bytes are equal.
pub read : (R : RattleType) (laws : Laws R) (reader : Ghosts R.Denot) (dict : Dict) (a : Lfts 3) (inputs : Lent R) (given : List ℕ)
    (x y : Bool) (e f : Lent R) → reader.remaining inputs.0.now ≡ Some given → length e.1.0.now ≡ length f.1.0.now
    → read_contract.Learnt R laws reader dict a inputs (Ok x) e → read_contract.Learnt R laws reader dict a inputs (Ok y) f → x ≡ y
read R laws reader dict a inputs given x y e f known long p q =
    let left_e = reader.remaining e.0.now in
    let left_f = reader.remaining f.0.now in
    same_answer given e.1.0.now f.1.0.now left_e left_f x y long (whole R laws reader dict a inputs given x e known p)
    (whole R laws reader dict a inputs given y f known q)

-- Where it answers true the bytes are the same too, and as much is left.
pub read_filled : (R : RattleType) (laws : Laws R) (reader : Ghosts R.Denot) (dict : Dict) (a : Lfts 3) (inputs : Lent R) (given : List ℕ)
    (e f : Lent R) → reader.remaining inputs.0.now ≡ Some given → length e.1.0.now ≡ length f.1.0.now
    → read_contract.Learnt R laws reader dict a inputs (Ok true) e → read_contract.Learnt R laws reader dict a inputs (Ok true) f
    → (e.1.0.now ≡ f.1.0.now) × (reader.remaining e.0.now ≡ reader.remaining f.0.now)
read_filled R laws reader dict a inputs given e f known long p q =
    let p' = whole R laws reader dict a inputs given true e known p in
    let q' = whole R laws reader dict a inputs given true f known q in
    same_bytes given e.1.0.now f.1.0.now (reader.remaining e.0.now) (reader.remaining f.0.now) long (p'.0 refl) (q'.0 refl)

-- Where it answers false the bytes at the front are the same, as many as there were, and nothing is left. The bytes past those are open.
pub read_cut : (R : RattleType) (laws : Laws R) (reader : Ghosts R.Denot) (dict : Dict) (a : Lfts 3) (inputs : Lent R) (given : List ℕ)
    (e f : Lent R) → reader.remaining inputs.0.now ≡ Some given
    → read_contract.Learnt R laws reader dict a inputs (Ok false) e → read_contract.Learnt R laws reader dict a inputs (Ok false) f
    → (take (length given) e.1.0.now ≡ take (length given) f.1.0.now) × (reader.remaining e.0.now ≡ reader.remaining f.0.now)
read_cut R laws reader dict a inputs given e f known p q =
    let p' = whole R laws reader dict a inputs given false e known p in
    let q' = whole R laws reader dict a inputs given false f known q in
    let one = stands given e.1.0.now (reader.remaining e.0.now) (p'.1 refl) (p'.2 refl) in
    let other = stands given f.1.0.now (reader.remaining f.0.now) (q'.1 refl) (q'.2 refl) in
    (one.0 ∙ sym other.0, one.1 ∙ sym other.1)
