-- Each entry of an accepted history is right at its own moment.
use Rattle.std.proofs.Common.{◌≡◌, ℕ, zero, suc, List, [], ◌∷◌, ◌++◌, Option, Some, None, Ok, length, refl, ap, sym, ◌∙◌, subst, reverse, take, drop, slice_get, append_assoc}
use Rattle.std.proofs.Math.Seq.{take-length}
use Rattle.std.proofs.lemmas.List.{reverse-append, take-append-drop}
use Rattle.ec_count.specs.Tables.{Tables}
use Rattle.ec_core.specs.declared.act.Entry.{Entry}
use Rattle.ec_core.specs.Counts.{past_at}
use Rattle.ec_core.specs.Rounds.{IsPastOf}
use Rattle.ec_core.specs.Acceptance.{answer_of, IsAccepted}
use Rattle.ec_core.specs.Laws.{PrefixesAreAccepted, AcceptedMeansAnswered}

-- the history before position k, the entry there, and the rest
pub split_at : (h : List Entry) (k : ℕ) (x : Entry) → slice_get h k ≡ Some x → (rest : List Entry) × (h ≡ take k h ++ x ∷ rest)
split_at [] k x h = cc
split_at (y ∷ ys) zero x h = (ys, (let same : y ≡ x = cc in ap (λ z. z ∷ ys) same))
split_at (y ∷ ys) (suc k) x h = (let r = split_at ys k x h in (r.0, ap (λ zs. y ∷ zs) r.1))

take_next : (h : List Entry) (k : ℕ) (x : Entry) → slice_get h k ≡ Some x → take (suc k) h ≡ take k h ++ x ∷ []
take_next [] k x h = cc
take_next (y ∷ ys) zero x h = (let same : y ≡ x = cc in ap (λ z. z ∷ []) same)
take_next (y ∷ ys) (suc k) x h = ap (λ zs. y ∷ zs) (take_next ys k x h)

take_end : (h : List Entry) (k : ℕ) → slice_get h k ≡ None → take (suc k) h ≡ take k h
take_end [] zero h = refl
take_end [] (suc k) h = refl
take_end (y ∷ ys) zero h = cc
take_end (y ∷ ys) (suc k) h = ap (λ zs. y ∷ zs) (take_end ys k h)

-- the reversed history at the next moment begins with the entry
pub past_next : (h : List Entry) (k : ℕ) (x : Entry) → slice_get h k ≡ Some x → past_at (suc k) h ≡ x ∷ past_at k h
past_next h k x at = ap reverse (take_next h k x at) ∙ reverse-append (take k h) (x ∷ [])

-- after the last entry the reversed history stays as it is
pub past_end : (h : List Entry) (k : ℕ) → slice_get h k ≡ None → past_at (suc k) h ≡ past_at k h
past_end h k at = ap reverse (take_end h k at)

-- a suffix of an accepted reversed history is accepted
pub accepted_before : (t : Tables) (since early : List Entry) → IsAccepted t (since ++ early) → IsAccepted t early
accepted_before t [] early h = h
accepted_before t (x ∷ since) early h = accepted_before t since early h.1

turned : (p : List Entry) (x : Entry) (rest : List Entry) → reverse (x ∷ rest) ++ p ≡ reverse rest ++ x ∷ p
turned p x rest = ap (λ r. r ++ p) (reverse-append (x ∷ []) rest) ∙ append_assoc (reverse rest) (x ∷ []) p

pub accepted_at : (t : Tables) (h : List Entry) (k : ℕ) (x : Entry) → IsAccepted t (reverse h) → slice_get h k ≡ Some x
    → answer_of t (reverse (take k h)) x.worker x.act ≡ Ok x.reply
accepted_at t h k x acc at =
    let r = split_at h k x at in
    let whole : reverse h ≡ reverse r.0 ++ x ∷ reverse (take k h) = ap reverse r.1 ∙ reverse-append (take k h) (x ∷ r.0) ∙ turned (reverse (take k h)) x r.0 in
    (accepted_before t (reverse r.0) (x ∷ reverse (take k h)) (subst (IsAccepted t) whole acc)).0

-- the reversed history up to an entry is a suffix of the whole one
pub past_through : (h done others : List Entry) (x : Entry) → done ++ x ∷ others ≡ h → reverse h ≡ reverse others ++ x ∷ reverse done
past_through h done others x is = ap reverse (sym is) ∙ reverse-append done (x ∷ others) ∙ turned (reverse done) x others

-- an entry that comes after these has the answer to its act after them
pub answered_after : (t : Tables) (h done others : List Entry) (x : Entry) → IsAccepted t (reverse h) → done ++ x ∷ others ≡ h
    → answer_of t (reverse done) x.worker x.act ≡ Ok x.reply
answered_after t h done others x acc is =
    (accepted_before t (reverse others) (x ∷ reverse done) (subst (IsAccepted t) (past_through h done others x is) acc)).0

-- the first entries of an accepted history, whatever comes after them, are accepted
pub accepted_until : (t : Tables) (h done others : List Entry) → IsAccepted t (reverse h) → done ++ others ≡ h → IsAccepted t (reverse done)
accepted_until t h done others acc is =
    let whole : reverse h ≡ reverse others ++ reverse done = ap reverse (sym is) ∙ reverse-append done others in
    accepted_before t (reverse others) (reverse done) (subst (IsAccepted t) whole acc)

-- the reversed history at a moment is a suffix of the whole one
pub moment_before : (h : List Entry) (k : ℕ) → IsPastOf (past_at k h) (reverse h)
moment_before h k = record { since = reverse (drop k h); is = ap reverse (sym (take-append-drop k h)) ∙ reverse-append (take k h) (drop k h) }

-- the same of a history that is reversed here
pub accepted_of : (t : Tables) (h p : List Entry) → IsAccepted t (reverse h) → IsPastOf p (reverse h) → IsAccepted t p
accepted_of t h p acc is = accepted_before t is.since p (subst (IsAccepted t) is.is acc)

-- every prefix of an accepted history is accepted
pub beginnings : PrefixesAreAccepted
beginnings t k h acc = accepted_of t h (past_at k h) acc (moment_before h k)

-- if each entry has the answer to its act at its own moment, each prefix is accepted
next_accepted : (t : Tables) (h : List Entry) (k : ℕ) (o : Option Entry) → slice_get h k ≡ o
    → ((x : Entry) → slice_get h k ≡ Some x → answer_of t (past_at k h) x.worker x.act ≡ Ok x.reply) → IsAccepted t (past_at k h) → IsAccepted t (past_at (suc k) h)
next_accepted t h k None at right acc = subst (IsAccepted t) (sym (past_end h k at)) acc
next_accepted t h k (Some x) at right acc = subst (IsAccepted t) (sym (past_next h k x at)) (right x at, acc)

accepted_from : (t : Tables) (h : List Entry) → ((k : ℕ) (x : Entry) → slice_get h k ≡ Some x → answer_of t (past_at k h) x.worker x.act ≡ Ok x.reply)
    → (k : ℕ) → IsAccepted t (past_at k h)
accepted_from t h right zero = tt
accepted_from t h right (suc k) = next_accepted t h k (slice_get h k) refl (right k) (accepted_from t h right k)

-- a history is accepted exactly if each entry has the answer to its act at its own moment
pub accepted_means : AcceptedMeansAnswered
accepted_means t h = (
  λ acc k x at. accepted_at t h k x acc at,
  λ right. subst (λ l. IsAccepted t (reverse l)) (take-length h) (accepted_from t h right (length h)),
)
