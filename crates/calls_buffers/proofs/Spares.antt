-- Spare turns, which come last.
use Rattle.std.proofs.Common.{◌≡◌, ℕ, zero, suc, ◌+◌, ◌-◌, ◌≤◌, List, [], ◌∷◌, ◌++◌, length, None}
use Rattle.std.proofs.Common.{refl, ap, sym, ◌∙◌, subst, arith, append-nil, append_assoc, add-one}
use Rattle.std.proofs.lemmas.Option.{none-some}
use Rattle.calls_core.specs.Lists.{Each, EachPair}
use Rattle.calls_core.proofs.Lists.{each_weaker, each_append, each_pair_append}
use Rattle.calls_turns.specs.declared.turn.Turn.{Turn}
use Rattle.calls_turns.specs.Turns.{SparesLast}
use Rattle.calls_buffers.specs.declared.accesses.Access.{Access}
use Rattle.calls_buffers.specs.Turns.{taking_turns, first_before, putting_turns, spare_turns}
use Rattle.calls_buffers.specs.Turns.{turns_in}

-- it is of an item
abbrev IsKnown : Turn → Type 0
IsKnown t = t.item ≡ None → ⊥

record IsSpare (end : ℕ) (t : Turn) : Type 0 where
  item : t.item ≡ None
  late : end ≤ t.by

pairs_of : {X : Type 0} (A : X → Type 0) (R : X → X → Type 0)
    → ((x y : X) → A x → A y → R x y) → (xs : List X) → Each A xs → EachPair R xs
pairs_of A R f [] h = tt
pairs_of A R f (x ∷ xs) h =
    (each_weaker A (R x) (λ y k. f x y h.0 k) xs h.1, pairs_of A R f xs h.1)

spares_last : (end : ℕ) (ts us : List Turn) → Each IsKnown ts → Each (IsSpare end) us
    → SparesLast end (ts ++ us)
spares_last end ts us known spare = record {
  last = each_pair_append (λ (t u : Turn). t.item ≡ None → u.item ≡ None) ts us
      (pairs_of IsKnown (λ (t u : Turn). t.item ≡ None → u.item ≡ None) (λ t u k l e. absurd (k e))
      ts known)
      (pairs_of (IsSpare end) (λ (t u : Turn). t.item ≡ None → u.item ≡ None) (λ t u k l e. l.item)
      us spare)
      (each_weaker IsKnown (λ (t : Turn). Each (λ (u : Turn). t.item ≡ None → u.item ≡ None) us)
      (λ t k. each_weaker (IsSpare end) (λ (u : Turn). t.item ≡ None → u.item ≡ None)
      (λ u l e. l.item) us spare) ts known);
  late = each_append (λ (t : Turn). t.item ≡ None → end ≤ t.by) ts us
      (each_weaker IsKnown (λ (t : Turn). t.item ≡ None → end ≤ t.by) (λ t k e. absurd (k e)) ts
      known)
      (each_weaker (IsSpare end) (λ (t : Turn). t.item ≡ None → end ≤ t.by) (λ t k e. k.late) us
      spare);
}

taking_known : (n end : ℕ) (puts : List Access) → Each IsKnown (taking_turns n end puts)
taking_known n end [] = tt
taking_known n end (p ∷ puts) = (λ e. none-some p.item (sym e), taking_known n end puts)

putting_known : (n end : ℕ) (all : List Access) (k : ℕ) (takes : List Access)
    → Each IsKnown (putting_turns n end all k takes)
putting_known n end all k [] = tt
putting_known n end all k (a ∷ takes) =
    (λ e. none-some a.item (sym e), putting_known n end all (k + 1) takes)

are_spare : (n end : ℕ) (all : List Access) (k left : ℕ)
    → Each (IsSpare end) (spare_turns n end all k left)
are_spare n end all k zero = tt
are_spare n end all k (suc left) =
    (record { item = refl; late = omega arith }, are_spare n end all (k + 1) left)

pub none_spare : (n end : ℕ) (puts : List Access) → SparesLast end (taking_turns n end puts)
none_spare n end puts = subst (SparesLast end) (append-nil (taking_turns n end puts))
    (spares_last end (taking_turns n end puts) [] (taking_known n end puts) tt)

pub some_spare : (n end : ℕ) (takes all : List Access) (puts : ℕ)
    → SparesLast end (turns_in n end takes all puts)
some_spare n end takes all puts = spares_last end (putting_turns n end all 0 takes)
    (spare_turns n end all (length takes) (puts - length takes)) (putting_known n end all 0 takes)
    (are_spare n end all (length takes) (puts - length takes))

-- one spare turn more
pub spare_step : (n end : ℕ) (all : List Access) (k left next from : ℕ)
    (base more whole : List Turn) → left ≡ next + 1 → from ≡ first_before n end all k
    → more ≡ base ++ record { item = None; from = from; by = end } ∷ []
    → base ++ spare_turns n end all k left ≡ whole
    → more ++ spare_turns n end all (k + 1) next ≡ whole
spare_step n end all k left next from base more whole e at is h =
    let own : Turn = record { item = None; from = from; by = end } in
    let rest : List Turn = spare_turns n end all (k + 1) next in
    ap (λ zs. zs ++ rest) is ∙ append_assoc base (own ∷ []) rest
    ∙ ap (λ p. base ++ (record { item = None; from = p; by = end } ∷ rest)) at
    ∙ ap (λ m. base ++ spare_turns n end all k m) (sym (e ∙ add-one next)) ∙ h
