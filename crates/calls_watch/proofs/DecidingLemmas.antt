-- Whether a text is kept, and the outcome of a history that is decided at its end.
use Rattle.std.proofs.Common.{◌≡◌, ◌⊎◌, inl, inr, ℕ, ◌+◌, List, Option, Some, None, Result, Ok, Err}
use Rattle.std.proofs.Common.{refl, ap, sym, ◌∙◌, subst, true, false}
use Rattle.std.specs.Prelude.{is_some}
use Rattle.std.specs.Global.{Vec}
use Rattle.std.specs.Borrow.{Bor}
use Rattle.calls_core.specs.declared.history.Event.{Event}
use Rattle.calls_monitor.specs.declared.monitor.Monitor.{Monitor}
use Rattle.calls_verdict.specs.declared.verdict.Verdict.{Verdict}
use Rattle.calls_verdict.specs.declared.verdict.Verdict.TheVariants as verdicts
use Rattle.calls_watch.specs.declared.kept.Kept.{Kept}
use Rattle.calls_watch.specs.declared.kept.Kept.TheVariants.{Text, Unneeded, TooLong}
use Rattle.calls_watch.specs.declared.load.Load.{Load}
use Rattle.calls_watch.specs.declared.stop.Stop.{Stop}
use Rattle.calls_watch.specs.declared.stop.Stop.TheVariants as stops
use Rattle.calls_watch.specs.declared.watcher.Watcher.{Watcher}
use Rattle.calls_watch.specs.declared.whole.DecidedHistory.{DecidedHistory}
use Rattle.calls_watch.specs.kept.Texts.{ReturnsText, DecidesText, outcome_of}
use Rattle.calls_watch.specs.kept.Watching.{Decides, DecidesUnjudged, NeedsText, IsJudged, JudgedBy}
use Rattle.calls_watch.specs.kept.Watching.{IsPassedOver}
use Rattle.calls_watch.specs.kept.Watching.{IsNext, IsBegunAgain, EndsHistory}

-- THE TEXT

record HasBytes (k : Kept) (text : List ℕ) : Type 0 where
  bytes : Vec ℕ
  is : k ≡ Text bytes
  same : text ≡ bytes.items

has_bytes : (k : Kept) (t : Bor (List ℕ)) → ReturnsText k (Ok t) → HasBytes k t.now
has_bytes (Text bytes) t returned = record { bytes = bytes; is = refl; same = returned }
has_bytes Unneeded t returned = absurd returned
has_bytes TooLong t returned = absurd returned

-- why there is none
no_text : (k : Kept) (stop : Stop) → ReturnsText k (Err stop)
    → (stop ≡ stops.Memory) ⊎ ((stop ≡ stops.TooLarge) × (k ≡ TooLong))
no_text (Text bytes) stop returned = absurd returned
no_text Unneeded stops.Memory returned = inl refl
no_text Unneeded stops.TooLarge returned = absurd returned
no_text Unneeded stops.RefusedAtEnd returned = absurd returned
no_text Unneeded stops.NotDecided returned = absurd returned
no_text Unneeded (stops.Unread fault) returned = absurd returned
no_text Unneeded (stops.Refused x report) returned = absurd returned
no_text TooLong stops.TooLarge returned = inr (refl, refl)
no_text TooLong stops.Memory returned = absurd returned
no_text TooLong stops.RefusedAtEnd returned = absurd returned
no_text TooLong stops.NotDecided returned = absurd returned
no_text TooLong (stops.Unread fault) returned = absurd returned
no_text TooLong (stops.Refused x report) returned = absurd returned

pub needs_stop : (k : Kept) (stop : Stop) → ReturnsText k (Err stop) → NeedsText k (Err stop)
needs_stop k stop returned =
    elim (no_text k stop returned) [
      | inl e ↦ subst (λ (s : Stop). NeedsText k (Err s)) (sym e) tt
      | inr p ↦ subst (λ (s : Stop). NeedsText k (Err s)) (sym p.0) p.1
    ]

pub decides_stop : (old new : Watcher) (stop : Stop) → ReturnsText old.kept (Err stop)
    → Decides old new (Err stop)
decides_stop old new stop returned =
    elim (no_text old.kept stop returned) [
      | inl e ↦ subst (λ (s : Stop). Decides old new (Err s)) (sym e) tt
      | inr p ↦ subst (λ (s : Stop). Decides old new (Err s)) (sym p.0) p.1
    ]

pub decides_memory : (old new : Watcher) (stop : Stop) → stop ≡ stops.Memory
    → Decides old new (Err stop)
decides_memory old new stop memory =
    subst (λ (s : Stop). Decides old new (Err s)) (sym memory) tt

-- THE OUTCOME

module _ (old new : Watcher) (t : Bor (List ℕ)) (d : DecidedHistory)
    (returned : ReturnsText old.kept (Ok t)) (decides : DecidesText old.first t.now d)
    (is : new.decided ≡ Some d) where
  has : HasBytes old.kept t.now
  has = has_bytes old.kept t returned

  by_verdict : (v : Verdict) → d.verdict ≡ v → Decides old new (outcome_of v)
  by_verdict (verdicts.Linearizable order) same = record {
    decided = d;
    is = is;
    bytes = has.bytes;
    was = has.is;
    decides = subst (λ (xs : List ℕ). DecidesText old.first xs d) has.same decides;
    outcome = ap outcome_of (sym same);
  }
  by_verdict (verdicts.Refused x) same = record {
    decided = d;
    is = is;
    bytes = has.bytes;
    was = has.is;
    decides = subst (λ (xs : List ℕ). DecidesText old.first xs d) has.same decides;
    outcome = ap outcome_of (sym same);
  }
  by_verdict (verdicts.NotDecided u) same = record {
    decided = d;
    is = is;
    bytes = has.bytes;
    was = has.is;
    decides = subst (λ (xs : List ℕ). DecidesText old.first xs d) has.same decides;
    outcome = ap outcome_of (sym same);
  }

  pub decides_by : (result : Result (Unit {0}) Stop) → result ≡ outcome_of d.verdict
      → Decides old new result
  decides_by result same =
      subst (Decides old new) (sym same) (by_verdict d.verdict refl)

-- what a decision leaves as it was
pub next_later : (old mid new : Watcher) → mid.number ≡ old.number → mid.load ≡ old.load
    → IsNext mid new → IsNext old new
next_later old mid new number load next = record {
  opening = next.opening;
  seen = next.seen;
  number = next.number ∙ number;
  histories = next.histories ∙ ap (λ (l : Load). l.histories + 1) load;
  calls = next.calls ∙ ap (λ (l : Load). l.calls) load;
  others = next.others ∙ ap (λ (l : Load). l.others) load;
  first = next.first;
  kept = next.kept;
}

-- THE END OF A HISTORY

pub all_judged : (o : Option Monitor) (old new : Watcher) → is_some o ≡ true
    → DecidesUnjudged o old new (Ok tt)
all_judged (Some m) old new some = refl
all_judged None old new some = absurd (let never : ⊥ = cc in never)

pub not_judged : (o : Option Monitor) (old new : Watcher) (result : Result (Unit {0}) Stop)
    → is_some o ≡ false → Decides old new result → DecidesUnjudged o old new result
not_judged None old new result none decides = decides
not_judged (Some m) old new result none decides = absurd (let never : ⊥ = cc in never)

pub history_stops : (o : Option Monitor) (old new : Watcher) (stop : Stop)
    → DecidesUnjudged o old new (Err stop) → EndsHistory o old new (Err stop)
history_stops None old new stop decides = inl decides
history_stops (Some m) old new stop same = absurd (let never : ⊥ = cc in never)

pub history_ends : (o : Option Monitor) (old mid new : Watcher) (result : Result (Unit {0}) Stop)
    → DecidesUnjudged o old mid (Ok tt) → mid.number ≡ old.number → mid.load ≡ old.load
    → IsBegunAgain mid new result → EndsHistory o old new result
history_ends None old mid new (Ok u) decides number load next =
    ((mid, decides), next_later old mid new number load next)
history_ends None old mid new (Err stop) decides number load memory = inr memory
history_ends (Some m) old mid new (Ok u) same number load next = next_later old mid new number load next
history_ends (Some m) old mid new (Err stop) same number load memory = memory

-- AN EVENT

pub judged_by : (o : Option Monitor) (k : Kept) (x : Event) (m : Monitor) (new : Option Monitor)
    (result : Result (Unit {0}) Stop) → o ≡ Some m → IsJudged m x new result
    → JudgedBy o k x new result
judged_by o k x m new result is judged =
    subst (λ (p : Option Monitor). JudgedBy p k x new result) (sym is) (inl judged)

pub passed_by : (o : Option Monitor) (k : Kept) (x : Event) (m : Monitor) (new : Option Monitor)
    (result : Result (Unit {0}) Stop) → o ≡ Some m → IsPassedOver m x → new ≡ None
    → NeedsText k result → JudgedBy o k x new result
passed_by o k x m new result is passed none needs =
    subst (λ (p : Option Monitor). JudgedBy p k x new result) (sym is) (inr (passed, (needs, none)))
