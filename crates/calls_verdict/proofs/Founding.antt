-- The findings with one more object, and the verdict at the end.
use Rattle.std.proofs.Common.{◌≡◌, ℕ, ◌+◌, ◌<◌, ◌≤◌, ◌⊎◌, inl, inr, true}
use Rattle.std.proofs.Common.{List, [], ◌++◌, length, Option, Some, None, refl, ap, sym}
use Rattle.std.proofs.Common.{◌∙◌, arith, subst, slice_get, reverse, get_or}
use Rattle.std.proofs.lemmas.Bool.{cases_lt}
use Rattle.std.proofs.lemmas.Option.{same_Some, none-some, slice_get_within}
use Rattle.std.specs.Option.{is_some}
use Rattle.calls_core.specs.declared.history.Kind.{Kind}
use Rattle.calls_core.specs.declared.history.Reply.TheVariants as reply
use Rattle.calls_core.specs.declared.history.Action.TheVariants as action
use Rattle.calls_core.specs.declared.history.Event.{Event}
use Rattle.calls_core.specs.declared.history.Call.{Call}
use Rattle.calls_core.specs.declared.history.Placed.{Placed}
use Rattle.calls_core.specs.Histories.{clock, part, pending_calls, completed_calls, IsHistory}
use Rattle.calls_core.specs.Histories.{IsHistoryOf}
use Rattle.calls_core.specs.Linearizations.{IsRun, start}
use Rattle.calls_core.specs.Points.{placed_one, by_points, IsPlacedOrder}
use Rattle.calls_core.specs.Beginnings.{until}
use Rattle.calls_core.specs.Outcomes.{IsOrderOf, HasOrderOf}
use Rattle.calls_core.proofs.Beginnings.{order_until, until_split, history_earlier, past_next}
use Rattle.calls_core.proofs.Beginnings.{past_all}
use Rattle.calls_core.proofs.Settling.{has_order_from}
use Rattle.calls_local.proofs.Parts.{part_history_of, part_clock}
use Rattle.calls_verdict.specs.declared.verdict.Fault.{Fault}
use Rattle.calls_verdict.specs.declared.verdict.Refusal.{Refusal}
use Rattle.calls_verdict.specs.declared.verdict.Cause.{Cause}
use Rattle.calls_verdict.specs.declared.verdict.Undecided.{Undecided}
use Rattle.calls_verdict.specs.declared.verdict.Verdict.TheVariants.{Linearizable, Refused}
use Rattle.calls_verdict.specs.declared.verdict.Verdict.TheVariants.{NotDecided}
use Rattle.calls_verdict.specs.declared.verdict.Decision.TheVariants as decision
use Rattle.calls_verdict.specs.declared.findings.Findings.{Findings}
use Rattle.calls_verdict.specs.Faults.{Shows, ShowsUndecided}
use Rattle.calls_verdict.specs.Verdicts.{IsHard, IsDecision, IsCleanBefore, IsOrderedBefore, IsVerdict}
use Rattle.calls_verdict.specs.Verdicts.{IsRefusedAt, IsOrdered, IsClear, AreClear}
use Rattle.calls_verdict.specs.kept.Findings.{limit, IsRefused, IsOpen, ArePlaced}
use Rattle.calls_verdict.specs.kept.Findings.{AreFound, IsEarlier}
use Rattle.calls_verdict.proofs.Untils.{part_until, until_all}
use Rattle.calls_verdict.proofs.Clearing.{until_event, event_early, ordered_up_to, open_at}
use Rattle.calls_verdict.proofs.Clearing.{order_clear}
use Rattle.calls_verdict.proofs.Clearing.{ordered_clear, open_clear, settled_order}
use Rattle.calls_verdict.proofs.Gathering.{placed_more, placed_whole, none_placed, whole_from_parts}

pub none_here : {X : Type 0} (o : Option X) → ((x : X) → o ≡ Some x → ⊥) → o ≡ None
none_here None h = refl
none_here (Some x) h = absurd (h x refl)

pub kept_first : {X : Type 0} (o : Option X) → is_some o ≡ true → (x : X) × (o ≡ Some x)
kept_first None h = cc
kept_first (Some x) h = (x, refl)

pub any_event : Event
any_event = record { at = 0; worker = 0; action = action.Respond reply.Done }

history_before : (kinds : List Kind) (n : ℕ) (past : List Event) → IsHistory kinds past
    → IsHistory kinds (until n past)
history_before kinds n past h =
    (let r = until_split n past in history_earlier kinds r.0 (until n past)
    (subst (IsHistory kinds) r.1 h))

module _ (kinds : List Kind) (past : List Event) (h : IsHistory kinds past) where
  abbrev Clear : ℕ → ℕ → Type 0
  Clear n top = (k : ℕ) (kind : Kind) → k < n → slice_get kinds k ≡ Some kind → (m : ℕ) → m ≤ top
      → IsClear kind past k m

  clear_more : (n : ℕ) (kind : Kind) (top later : ℕ) → slice_get kinds n ≡ Some kind → later ≤ top
      → Clear n top
      → ((m : ℕ) → m ≤ later → IsClear kind past n m) → Clear (n + 1) later
  clear_more n kind top later is le old new k other lt e m low =
      elim (cases_lt k n) [
        | inl less ↦ old k other less e m (omega arith)
        | inr ge ↦
            (let same : n ≡ k = omega arith in
            let one : kind ≡ other = same_Some kind other (sym is ∙ ap (slice_get kinds) same ∙ e)
            in
            subst (λ j. IsClear other past j m) same
            (subst (λ z. IsClear z past n m) one (new m low)))
      ]

  -- the events of object n before a position, if these are its events
  own_until : (n m : ℕ) (own : List Event) → own ≡ part n past
      → until m own ≡ part n (until m past)
  own_until n m own mine = ap (until m) mine ∙ sym (part_until kinds n m past h)

  -- an object that is ordered
  pub found_ordered : (n : ℕ) (kind : Kind) (own : List Event) (cs : List Call) (old new : Findings)
      → slice_get kinds n ≡ Some kind → reverse own ≡ part n past
      → IsOrderOf kind (reverse own) (clock past) cs
      → new.refusal ≡ old.refusal → new.undecided ≡ old.undecided
      → new.placed ≡ old.placed ++ placed_one 0 cs
      → AreFound kinds past n old → AreFound kinds past (n + 1) new
  found_ordered n kind own cs old new is mine l refused undecided items f =
      (let order : IsOrderOf kind (part n past) (clock past) cs =
      subst (λ q. IsOrderOf kind q (clock past) cs) mine l in
      let of_kind = part_history_of kinds n kind past h is in
      let has = has_order_from kind (part n past) (clock past) cs of_kind
      (part_clock kinds n past h) order in
      record {
        clear = clear_more n kind (limit (clock past) old.refusal) (limit (clock past) new.refusal)
            is
            (let same : limit (clock past) new.refusal ≡ limit (clock past) old.refusal =
            ap (limit (clock past)) refused in omega arith)
            f.clear (λ m le. order_clear kind past n m
            (subst (HasOrderOf kind) (own_until n m (part n past) refl)
            (order_until kind m (part n past) of_kind has)));
        refused = subst (IsRefused kinds past) (sym refused) f.refused;
        undecided = subst (IsOpen kinds past) (sym undecided) f.undecided;
        placed = λ a b. subst (ArePlaced kinds past (n + 1)) (sym items)
            (placed_more kinds past h n kind old.placed cs is order
            (f.placed (sym refused ∙ a) (sym undecided ∙ b)));
      })

  abbrev refusal_at : ℕ → Event → Fault → Refusal
  refusal_at n x fault = record { at = x.at; object = n; fault = fault }

  -- an object that shows a fault
  pub found_refused : (n : ℕ) (kind : Kind) (own : List Event) (i : ℕ) (d : Event) (fault : Fault)
      (old new : Findings) (before : Option Refusal) (kept : Refusal)
      → before ≡ old.refusal → slice_get kinds n ≡ Some kind → reverse own ≡ part n past
      → IsDecision kind own (clock past) (decision.Refused i fault)
      → new.refusal ≡ Some kept → new.undecided ≡ old.undecided
      → IsEarlier before (refusal_at n (get_or own i d) fault) kept
      → AreFound kinds past n old → AreFound kinds past (n + 1) new
  found_refused n kind own i d fault old new before kept was is mine l refused undecided earlier f =
      (let of_kind : IsHistoryOf kind (reverse own) = subst (IsHistoryOf kind) (sym mine)
      (part_history_of kinds n kind past h is) in
      let least : IsEarlier old.refusal (refusal_at n (get_or own i d) fault) kept =
      subst (λ o. IsEarlier o (refusal_at n (get_or own i d) fault) kept) was earlier in
      record {
        clear = clear_more n kind (limit (clock past) old.refusal) (limit (clock past) new.refusal)
            is
            (let same : limit (clock past) new.refusal ≡ kept.at =
            ap (limit (clock past)) refused in
            omega (arith, lower old.refusal least of_kind)) f.clear
            (λ m le. (let same : limit (clock past) new.refusal ≡ kept.at =
            ap (limit (clock past)) refused in
            let early : m ≤ (get_or own i d).at =
            omega (arith, no_later old.refusal least) in
            ordered_clear kind past n m (get_or own i d).at early
            (own_ordered of_kind kind m is early)));
        refused = subst (IsRefused kinds past) (sym refused)
            (shown old.refusal least f.refused of_kind);
        undecided = subst (IsOpen kinds past) (sym undecided) f.undecided;
        placed = λ a b. absurd (none-some kept (sym a ∙ refused));
      })
    where
      r : IsRefusedAt kind own (clock past) i fault
      r = l

      own_ordered : IsHistoryOf kind (reverse own)
          → IsOrderedBefore kinds past n (get_or own i d).at
      own_ordered of_kind other m e le =
          (let one : kind ≡ other = same_Some kind other (sym is ∙ e) in
          let at = (get_or own i d).at in
          subst (λ z. IsOrdered z (clock past) (part n (until m past)) (part n (until at past))) one
          (subst (IsOrdered kind (clock past) (part n (until m past)))
          (own_until n at (reverse own) mine)
          (subst (λ q. IsOrdered kind (clock past) q (until at (reverse own)))
          (own_until n m (reverse own) mine)
          (ordered_up_to kind own i d of_kind r.within (clock past) m le r.before))))

      next_shows : IsHistoryOf kind (reverse own) → IsRefused kinds past
          (Some (refusal_at n (get_or own i d) fault))
      next_shows of_kind = (
        record {
          kind = kind;
          is = is;
          shows = subst (λ q. Shows kind q fault)
              (past_next own i d r.within ∙ sym (until_event kind own i d of_kind r.within)
              ∙ ap (until ((get_or own i d).at + 1)) mine ∙ sym
              (part_until kinds n ((get_or own i d).at + 1) past h)) r.shows;
        },
        own_ordered of_kind,
      )

      shown : (o : Option Refusal) → IsEarlier o (refusal_at n (get_or own i d) fault) kept
          → IsRefused kinds past o → IsHistoryOf kind (reverse own)
          → IsRefused kinds past (Some kept)
      shown None e q of_kind = subst (λ z. IsRefused kinds past (Some z)) (sym e)
          (next_shows of_kind)
      shown (Some o) (inl e) q of_kind = subst (λ z. IsRefused kinds past (Some z)) (sym e.0) q
      shown (Some o) (inr e) q of_kind = subst (λ z. IsRefused kinds past (Some z)) (sym e.0)
          (next_shows of_kind)

      no_later : (o : Option Refusal) → IsEarlier o (refusal_at n (get_or own i d) fault) kept
          → kept.at ≤ (get_or own i d).at
      no_later None e = (let same : kept.at ≡ (get_or own i d).at = ap (λ (z : Refusal). z.at) e in
          omega arith)
      no_later (Some o) (inl e) = (let same : kept.at ≡ o.at = ap (λ (z : Refusal). z.at) e.0 in
          omega (arith, e.1))
      no_later (Some o) (inr e) = (let same : kept.at ≡ (get_or own i d).at =
          ap (λ (z : Refusal). z.at) e.0 in omega arith)

      lower : (o : Option Refusal) → IsEarlier o (refusal_at n (get_or own i d) fault) kept
          → IsHistoryOf kind (reverse own) → kept.at ≤ limit (clock past) o
      lower None e of_kind =
          (let same : kept.at ≡ (get_or own i d).at = ap (λ (z : Refusal). z.at) e in
          let le : clock (reverse own) ≤ clock past = subst (λ q. clock q ≤ clock past) (sym mine)
          (part_clock kinds n past h) in
          omega (arith, event_early kind own i d of_kind r.within))
      lower (Some o) (inl e) of_kind = (let same : kept.at ≡ o.at =
          ap (λ (z : Refusal). z.at) e.0 in omega arith)
      lower (Some o) (inr e) of_kind = (let same : kept.at ≡ (get_or own i d).at =
          ap (λ (z : Refusal). z.at) e.0 in omega (arith, e.1))

  -- an object that isn't decided
  pub found_open : (n : ℕ) (kind : Kind) (own : List Event) (i : ℕ) (d : Event)
      (u : Cause) (old new : Findings) (kept : Undecided)
      → slice_get kinds n ≡ Some kind → reverse own ≡ part n past
      → IsDecision kind own (clock past) (decision.Open i u)
      → new.refusal ≡ old.refusal → new.undecided ≡ Some kept
      → (old.undecided ≡ Some kept) ⊎ (kept ≡ record { object = n; cause = u })
      → AreFound kinds past n old → AreFound kinds past (n + 1) new
  found_open n kind own i d u old new kept is mine l refused undecided first f =
      (let of_kind : IsHistoryOf kind (reverse own) = subst (IsHistoryOf kind) (sym mine)
      (part_history_of kinds n kind past h is) in
      record {
        clear = clear_more n kind (limit (clock past) old.refusal) (limit (clock past) new.refusal)
            is
            (let same : limit (clock past) new.refusal ≡ limit (clock past) old.refusal =
            ap (limit (clock past)) refused in omega arith)
            f.clear (λ m le. open_clear kind past n m
            (subst (λ q. HasOrderOf kind q ⊎ ((v : Cause) × ShowsUndecided kind q v))
            (own_until n m (reverse own) mine)
            (open_at kind own i d of_kind l.within u m l.shows l.before))
            (subst (IsHard kind (clock past)) (mine
            ∙ ap (part n) (sym (until_all (m + clock past) past (omega arith)))) l.hard));
        refused = subst (IsRefused kinds past) (sym refused) f.refused;
        undecided = subst (IsOpen kinds past) (sym undecided) (elim first [
          | inl e ↦ subst (IsOpen kinds past) e f.undecided
          | inr e ↦ subst (λ z. IsOpen kinds past (Some z)) (sym e) (record {
            kind = kind;
            is = is;
            shows = subst (λ q. ShowsUndecided kind q u)
                (past_all own (length own) (omega arith) ∙ mine) (l.shows (length own) l.within);
            hard = subst (IsHard kind (clock past)) mine l.hard;
          })
        ]);
        placed = λ a b. absurd (none-some kept (sym b ∙ undecided));
      })

  -- NO OBJECT, AND ALL

  pub found_none : (found : Findings) → found.refusal ≡ None → found.undecided ≡ None
      → found.placed ≡ []
      → AreFound kinds past 0 found
  found_none found refused undecided items = record {
    clear = λ k kind lt e m le. absurd (omega arith);
    refused = subst (IsRefused kinds past) (sym refused) tt;
    undecided = subst (IsOpen kinds past) (sym undecided) tt;
    placed = λ a b. subst (ArePlaced kinds past 0) (sym items) (none_placed kinds past h);
  }

  clean : (top : ℕ) → Clear (length kinds) top → IsCleanBefore kinds past top
  clean top c m le = (
    clear,
    λ d. whole_from_parts kinds (until m past) (history_before kinds m past h)
        (λ k kind e. settled_order kind past k m (d k kind e) (clear k kind e)),
  )
    where
      clear : AreClear kinds past m
      clear k kind e = c k kind (slice_get_within kinds k kind e) e m le

  pub verdict_refused : (found : Findings) (r : Refusal) → found.refusal ≡ Some r
      → AreFound kinds past (length kinds) found
      → IsVerdict kinds past (Refused r)
  verdict_refused found r e f = record {
    shows = (subst (IsRefused kinds past) e f.refused).0;
    own = (subst (IsRefused kinds past) e f.refused).1;
    before = clean r.at (subst (λ z. Clear (length kinds) (limit (clock past) z)) e f.clear);
  }

  pub verdict_open : (found : Findings) (u : Undecided) → found.refusal ≡ None
      → found.undecided ≡ Some u
      → AreFound kinds past (length kinds) found → IsVerdict kinds past (NotDecided u)
  verdict_open found u none e f = record {
    shows = subst (IsOpen kinds past) e f.undecided;
    rest = clean (clock past) (subst (λ z. Clear (length kinds) (limit (clock past) z)) none
        f.clear);
  }

  pub verdict_ordered : (found : Findings) (v : List Placed) → found.refusal ≡ None
      → found.undecided ≡ None
      → v ≡ by_points found.placed → AreFound kinds past (length kinds) found
      → IsVerdict kinds past (Linearizable v)
  verdict_ordered found v a b e f =
      subst (IsPlacedOrder (IsRun (start kinds)) (completed_calls past) (pending_calls past)
      (clock past)) (sym e)
      (placed_whole kinds past h found.placed (f.placed a b))
