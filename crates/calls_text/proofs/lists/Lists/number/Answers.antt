use Rattle.std.proofs.Common.{◌≡◌, ◌≤◌, ℕ, ◌+◌, ◌∷◌, ◌++◌, ◌||◌, [], List, length, map, not, Bool}
use Rattle.std.proofs.Common.{true, false, cond, ap, sym, ◌∙◌, refl, arith}
use Rattle.std.specs.Prelude.{bytes_eq}
use Rattle.std.specs.Global.{Vec}
use Rattle.std.specs.List.{list_any, position_or_len}
use Rattle.calls_text.specs.Lists.{is_zeros, lists_after, list_number}
use Rattle.calls_text.proofs.lists.Lists.number.Goals as goal
use Rattle.calls_text.proofs.lists.Lists.number.Goals.{in-Ok, in-Err}

abbrev same : Vec ℕ → Vec ℕ → Bool
same v w = bytes_eq v.items w.items

abbrev items : List (Vec ℕ) → List (List ℕ)
items vs = map (λ (v : Vec ℕ). v.items) vs

within : {A : Type 0} (p : A → Bool) (xs : List A) → position_or_len p xs ≤ length xs
within p [] = omega arith
within p (x ∷ xs) =
    let P : Bool → Type 0 = λ b. cond (not b) (1 + position_or_len p xs) 0 ≤ 1 + length xs in
    let r : position_or_len p xs ≤ length xs = within p xs in
    let go : P (p x) = elim (p x) as P [ true ↦ omega arith | false ↦ omega arith ] in
    omega (arith, go)

place : (l : Vec ℕ) (vs : List (Vec ℕ)) → position_or_len (same l) vs
    ≡ position_or_len (bytes_eq l.items) (items vs)
place l [] = refl
place l (v ∷ vs) = ap (λ (n : ℕ). cond (not (bytes_eq l.items v.items)) (1 + n) 0) (place l vs)

has : (l : Vec ℕ) (vs : List (Vec ℕ)) → list_any (same l) vs
    ≡ list_any (bytes_eq l.items) (items vs)
has l [] = refl
has l (v ∷ vs) = ap (λ (b : Bool). bytes_eq l.items v.items || b) (has l vs)

more : (l : Vec ℕ) (vs : List (Vec ℕ)) → items (vs ++ l ∷ []) ≡ items vs ++ l.items ∷ []
more l [] = refl
more l (v ∷ vs) = ap (λ ws. v.items ∷ ws) (more l vs)

chosen : (b : Bool) (l : Vec ℕ) (vs : List (Vec ℕ)) → items (cond b vs (vs ++ l ∷ []))
    ≡ cond b (items vs) (items vs ++ l.items ∷ [])
chosen true l vs = refl
chosen false l vs = more l vs

numbered : (old : List (List ℕ)) (l : Vec ℕ) (vs : List (Vec ℕ)) (n : ℕ) → items vs ≡ old
    → is_zeros l.items ≡ false → n ≡ position_or_len (same l) vs → n + 1 ≡ list_number old l.items
numbered old l vs n was some is =
    ap (λ (k : ℕ). k + 1) (is ∙ place l vs ∙ ap (position_or_len (bytes_eq l.items)) was)
    ∙ sym (ap (λ (b : Bool). cond b 0 (position_or_len (bytes_eq l.items) old + 1)) some)

listed : (old : List (List ℕ)) (l : Vec ℕ) (vs ws : List (Vec ℕ)) → items vs ≡ old
    → is_zeros l.items ≡ false → ws ≡ cond (list_any (same l) vs) vs (vs ++ l ∷ [])
    → items ws ≡ lists_after old l.items
listed old l vs ws was some is =
    ap items is ∙ chosen (list_any (same l) vs) l vs
    ∙ ap (λ (b : Bool). cond b (items vs) (items vs ++ l.items ∷ [])) (has l vs)
    ∙ ap (λ (o : List (List ℕ)). cond (list_any (bytes_eq l.items) o) o (o ++ l.items ∷ [])) was
    ∙ sym (ap (λ (b : Bool). cond b old (cond (list_any (bytes_eq l.items) old) old
    (old ++ l.items ∷ []))) some)

pub overflow_add-result : goal.overflow_add-result
overflow_add-result c =
    let small = c.len-keys.ensures.small in
    let len = c.len-keys.ensures.len in
    let index = c.in-Ok.ensures.index in
    let most : position_or_len (same c.args.list) c.self.inside.table.keys ≤ length
    c.self.inside.table.keys = within (same c.args.list) c.self.inside.table.keys in
    omega (arith, small, len, index, most)

pub returns-clause-number : goal.returns-clause-number
returns-clause-number c =
    elim c.match-insert_full.branch [
      | in-Ok w ↦ rw w.result-is (numbered _ c.args.list c.self.inside.table.keys _ c.self.view_is
          (ap is_zeros (sym c.deref.ensures.value) ∙ sym c.is_zeros.ensures
          ∙ c.if-is_zeros.false) w.in-Ok.ensures.index)
      | in-Err w ↦ rw w.result-is tt
    ]

pub returns-clause-after : goal.returns-clause-after
returns-clause-after c =
    elim c.match-insert_full.branch [
      | in-Ok w ↦ rw w.result-is (listed _ c.args.list c.self.inside.table.keys _ c.self.view_is
          (ap is_zeros (sym c.deref.ensures.value) ∙ sym c.is_zeros.ensures
          ∙ c.if-is_zeros.false) w.in-Ok.ensures.keys)
      | in-Err w ↦ rw w.result-is tt
    ]
