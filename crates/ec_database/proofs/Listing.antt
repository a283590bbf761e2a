-- The accepted tries are listed in the order of their last steps.
use Rattle.std.proofs.Common.{◌≡◌, ℕ, Bool, true, false, ◌||◌, not, cond, List, [], ◌∷◌, ◌++◌, append_assoc, length, reverse, Option, Some, None, refl, ap, sym, ◌∙◌, arith, ◌⊎◌, inl, inr, slice_get}
use Rattle.std.specs.Prelude.{option_to_list, Result, Ok, Err, is_err, OnOk}
use Rattle.std.proofs.lemmas.List.{append-nil}
use Rattle.ec_count.specs.Tables.{Tables}
use Rattle.ec_core.specs.declared.act.Entry.{Entry}
use Rattle.ec_core.specs.declared.protocol.ListProgress.{ListProgress}
use Rattle.ec_core.specs.Calls.{is_pending}
use Rattle.ec_core.specs.Counts.{past_at}
use Rattle.ec_core.specs.Following.{CompletedCall, block}
use Rattle.ec_core.proofs.shared.Following.{op_at}
use Rattle.ec_core.proofs.shared.Joining.{get_back, last_get}
use Rattle.ec_database.specs.Shapes.{Database}
use Rattle.ec_database.specs.Following.{is_on, try_rule, writes}
use Rattle.ec_database.specs.Tries.{AcceptedTry, accepted_of, ended_by, ended_at, accepted_tries, ListsTries, AreUndisturbed}
use Rattle.ec_database.specs.Auditing.{completed_call}
use Rattle.ec_database.specs.Laws.{IsFollowed, TriesAreListed}
use Rattle.ec_database.proofs.CallsStand.{entry_at}
use Rattle.ec_database.proofs.Undisturbed.{here, undisturbed}

-- what a call ensures if it returns no error
pub not_err : {T E P : Type 0} (r : Result T E) → is_err r ≡ false → OnOk r P → P
not_err (Ok x) none h = h
not_err (Err e) none h = cc

tries_step : (d : Database) (writers : ℕ → Bool) (x : Entry) (past : List Entry) → accepted_tries d writers (x ∷ past) ≡ accepted_tries d writers past ++ option_to_list (ended_at d writers x past)
unfolding accepted_tries
tries_step d writers x past = refl

-- those of an earlier history come first
record TriesMore (d : Database) (writers : ℕ → Bool) (since early : List Entry) : Type 0 where
  more : List AcceptedTry
  is : accepted_tries d writers (since ++ early) ≡ accepted_tries d writers early ++ more

tries_more : (d : Database) (writers : ℕ → Bool) (since early : List Entry) → TriesMore d writers since early
tries_more d writers [] early = record { more = []; is = sym (append-nil (accepted_tries d writers early)) }
tries_more d writers (x ∷ since) early =
    let rest = tries_more d writers since early in
    let o = option_to_list (ended_at d writers x (since ++ early)) in
    record {
      more = rest.more ++ o;
      is = tries_step d writers x (since ++ early) ∙ ap (λ l. l ++ o) rest.is ∙ append_assoc (accepted_tries d writers early) rest.more o;
    }

-- an entry of a history so far ends a try
record TryStands (d : Database) (writers : ℕ → Bool) (past : List Entry) (i : ℕ) (a : AcceptedTry) : Type 0 where
  since : List Entry
  entry : Entry
  early : List Entry
  is : past ≡ since ++ entry ∷ early
  ends : ended_at d writers entry early ≡ Some a
  number : length (accepted_tries d writers early) ≡ i

last_option : {X : Type 0} (xs : List X) (o : Option X) (i : ℕ) (a : X) → slice_get (xs ++ option_to_list o) i ≡ Some a → (slice_get xs i ≡ Some a) ⊎ ((i ≡ length xs) × (o ≡ Some a))
last_option xs None i a h = inl (ap (λ l. slice_get l i) (sym (append-nil xs)) ∙ h)
last_option xs (Some x) i a h =
    elim (last_get xs x a i h) [
      | inl k ↦ inl k.0
      | inr k ↦ inr (k.0, ap Some k.1)
    ]

no_tries : (d : Database) (writers : ℕ → Bool) → accepted_tries d writers [] ≡ []
unfolding accepted_tries
no_tries d writers = refl

try_stands : (d : Database) (writers : ℕ → Bool) (past : List Entry) (i : ℕ) (a : AcceptedTry) → slice_get (accepted_tries d writers past) i ≡ Some a → TryStands d writers past i a
try_stands d writers [] i a h = (let none : slice_get (accepted_tries d writers []) i ≡ None = ap (λ l. slice_get l i) (no_tries d writers) in cc)
try_stands d writers (x ∷ past) i a h =
    elim (last_option (accepted_tries d writers past) (ended_at d writers x past) i a (ap (λ l. slice_get l i) (sym (tries_step d writers x past)) ∙ h)) [
      | inl k ↦ (let r = try_stands d writers past i a k in record { since = x ∷ r.since; entry = r.entry; early = r.early; is = ap (λ p. x ∷ p) r.is; ends = r.ends; number = r.number })
      | inr k ↦ record { since = []; entry = x; early = past; is = refl; ends = k.1; number = sym k.0 }
    ]

pub listed : TriesAreListed
listed t d h = record {
  each = λ i a at.
      (let s = try_stands d (writes t d) (reverse h) i a at in
      let place = entry_at h s.entry s.early (record { since = s.since; is = s.is }) in (
        length s.early,
        ap (λ p. length (accepted_tries d (writes t d) p)) place.1 ∙ s.number,
        record { entry = s.entry; is = place.0; ends = ap (ended_at d (writes t d) s.entry) place.1 ∙ s.ends },
      ));
  every = λ k a e.
      (let x = e.entry in
      let past = past_at k h in
      let w = here h k x e.is in
      let rest = tries_more d (writes t d) w.since (x ∷ past) in
      let before = accepted_tries d (writes t d) past in
      let whole : accepted_tries d (writes t d) (reverse h) ≡ before ++ (a ∷ rest.more) =
      ap (accepted_tries d (writes t d)) w.is ∙ rest.is ∙ ap (λ l. l ++ rest.more) (tries_step d (writes t d) x past ∙ ap (λ o. before ++ option_to_list o) e.ends)
      ∙ append_assoc before (a ∷ []) rest.more in
      ap (λ l. slice_get l (length before)) whole ∙ get_back before (a ∷ rest.more) (length before) 0 (omega arith));
}

pub first_tries : (d : Database) (writers : ℕ → Bool) → accepted_tries d writers [] ≡ []
first_tries = no_tries

ends_none : {X Y : Type 0} (w p o : Bool) (call : X) (returned : Option Y) → cond (w || p || not o) None (Some call) ≡ None → None ≡ cond (w || p) None (cond o returned None)
ends_none true p o call returned h = refl
ends_none false true o call returned h = refl
ends_none false false false call returned h = refl
ends_none false false true call returned h = cc

-- one more entry, whose accepted try is added if it ends one
pub next_tries : (d : Database) (writers : ℕ → Bool) (x : Entry) (past : List Entry) (list list' : List AcceptedTry) (o : Option AcceptedTry)
    → list ≡ accepted_tries d writers past → list' ≡ list ++ option_to_list o → o ≡ ended_at d writers x past → list' ≡ accepted_tries d writers (x ∷ past)
next_tries d writers x past list list' o h added returned =
    added ∙ ap (λ l. l ++ option_to_list o) h ∙ ap (λ z. accepted_tries d writers past ++ option_to_list z) returned ∙ sym (tries_step d writers x past)

-- one more entry that completes no call of a reader on the database
pub same_tries : (d : Database) (writers : ℕ → Bool) (x : Entry) (past : List Entry) (list : List AcceptedTry) (kept : ListProgress)
    → completed_call d (writers x.worker) kept (op_at x past) x ≡ None → list ≡ accepted_tries d writers past → list ≡ accepted_tries d writers (x ∷ past)
same_tries d writers x past list kept none h =
    next_tries d writers x past list list None h (sym (append-nil list)) (ends_none (writers x.worker) (is_pending x.reply) (is_on d (op_at x past)) _ _ none)

-- an entry whose call is not on the database ends no try
none_ended : (d : Database) (writers : ℕ → Bool) (x : Entry) (past : List Entry) → is_on d (op_at x past) ≡ false → ended_at d writers x past ≡ None
none_ended d writers x past off =
    let calls = block (try_rule d) x.worker past in
    let returned : CompletedCall = record { op = op_at x past; reply = x.reply } in
    elim (writers x.worker || is_pending x.reply) as (λ b. cond b None (ended_by d x.worker calls returned) ≡ None) [
      | true ↦ refl
      | false ↦ ap (λ b. cond b (accepted_of d x.worker (calls ++ returned ∷ [])) None) off
    ]

pub tries_off : (d : Database) (writers : ℕ → Bool) (x : Entry) (past : List Entry) → is_on d (op_at x past) ≡ false → accepted_tries d writers (x ∷ past) ≡ accepted_tries d writers past
tries_off d writers x past off =
    tries_step d writers x past ∙ ap (λ o. accepted_tries d writers past ++ option_to_list o) (none_ended d writers x past off) ∙ append-nil (accepted_tries d writers past)

-- each try of the list is undisturbed
pub all_undisturbed : (t : Tables) (d : Database) (h : List Entry) (list : List AcceptedTry) → IsFollowed t d h → ListsTries t d h list → AreUndisturbed t d h list
all_undisturbed t d h list f tries i a at = (let e = tries.each i a at in (e.0, e.1, e.2, undisturbed t d h f e.0 a e.2))
