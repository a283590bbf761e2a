-- Filters of lists, and curves, element by element.
use Rattle.std.proofs.Common.{◌≡◌, ℕ, suc, ◌+◌, Bool, true, false, List, [], ◌∷◌, ◌++◌}
use Rattle.std.proofs.Common.{Option, Some, None, refl, ap, sym, ◌∙◌, arith, cond, append-nil}
use Rattle.std.proofs.Common.{append_assoc}
use Rattle.std.specs.List.{filter}
use Rattle.std.specs.Option.{option_to_list}
use Rattle.ec_core.specs.declared.act.Entry.{Entry}
use Rattle.ec_draw.specs.declared.window.Window.{Window}
use Rattle.ec_draw.specs.declared.curve.Counter.TheVariants.{Event, Sequencer}
use Rattle.ec_draw.specs.Curves.{CurveModel, curve_of_count, event_curves, sequencer_curves}

pub filter_more : {X : Type 0} (f : X → Bool) (xs : List X) (x : X)
    → filter f (xs ++ x ∷ []) ≡ filter f xs ++ cond (f x) (x ∷ []) []
filter_more f [] x = refl
filter_more f (y ∷ ys) x =
    elim (f y) as (λ b. cond b (y ∷ filter f (ys ++ x ∷ [])) (filter f (ys ++ x ∷ []))
    ≡ cond b (y ∷ filter f ys) (filter f ys) ++ cond (f x) (x ∷ []) []) [
      | true ↦ ap (λ z. y ∷ z) (filter_more f ys x)
      | false ↦ filter_more f ys x
    ]

pub filter_behind : {X : Type 0} (f : X → Bool) (xs : List X) (o : Option X)
    → filter f (xs ++ option_to_list o) ≡ filter f xs ++ filter f (option_to_list o)
filter_behind f xs None = ap (filter f) (append-nil xs) ∙ sym (append-nil (filter f xs))
filter_behind f xs (Some x) = filter_more f xs x

-- CURVES

pub no_events : (w : Window) (h : List Entry) → [] ≡ event_curves w h 0
unfolding event_curves
no_events w h = refl

pub more_events : (w : Window) (h : List Entry) (n : ℕ) (ls : List CurveModel)
    → ls ≡ event_curves w h n
    → ls ++ curve_of_count w h (Event n) ∷ [] ≡ event_curves w h (n + 1)
unfolding event_curves
more_events w h n ls was =
    (let one : n + 1 ≡ suc n = omega arith in ap (λ z. z ++ curve_of_count w h (Event n) ∷ []) was
    ∙ sym (ap (event_curves w h) one))

pub first_sequencers : (w : Window) (h : List Entry) (m n : ℕ) → m ≡ n
    → event_curves w h m ≡ event_curves w h n ++ sequencer_curves w h 0
unfolding sequencer_curves
first_sequencers w h m n e = ap (event_curves w h) e ∙ sym (append-nil (event_curves w h n))

pub more_sequencers : (w : Window) (h : List Entry) (n : ℕ) (es ls : List CurveModel)
    → ls ≡ es ++ sequencer_curves w h n → ls ++ curve_of_count w h (Sequencer n) ∷ [] ≡ es
    ++ sequencer_curves w h (n + 1)
unfolding sequencer_curves
more_sequencers w h n es ls was =
    let one : n + 1 ≡ suc n = omega arith in
    ap (λ z. z ++ curve_of_count w h (Sequencer n) ∷ []) was
    ∙ append_assoc es (sequencer_curves w h n) (curve_of_count w h (Sequencer n) ∷ [])
    ∙ sym (ap (λ m. es ++ sequencer_curves w h m) one)
