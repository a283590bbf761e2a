-- The items in the cells of a buffer.
use Rattle.std.proofs.Common.{◌≡◌, ◌≢◌, ℕ, suc, ◌+◌, ◌*◌, ◌/◌, ◌%◌, ◌<◌, ◌≤◌, true, false, Option, Some, refl, ap, sym, ◌∙◌, arith, subst, ◌==◌, inl, inr}
use Rattle.std.proofs.lemmas.Bool.{eqb-true, eqb-false, ne_eqb, cases_lt}
use Rattle.std.proofs.lemmas.Nat.{div-add-mod', mul-le, mod_below}
use Rattle.std.proofs.Math.Nat.{suc-mul}
use Rattle.ec_buffer.proofs.Moves.{Moved}

-- n cells: so many puts and gets were made; the item put and the item got with each ticket; what
-- each cell holds
pub record IsStocked (n made given : ℕ) (put got : ℕ → Option Moved) (item : ℕ → Moved) : Type 0 where
  pub room : made ≤ given + n
  pub order : given ≤ made
  pub held : (i : ℕ) → i < made → (m : Moved) × (put i ≡ Some m) × (given ≤ i → item (i % n) ≡ m)
  pub taken : (i : ℕ) → i < given → (c : Moved) × (m : Moved) × (got i ≡ Some c) × (put i ≡ Some m) × (c.item ≡ m.item)

-- two numbers less than n apart have different cells
apart_mod : (n i j : ℕ) → i < j → j < i + n → i % n ≡ j % n → ⊥
apart_mod n i j lt near same =
    let a : i / n * n + i % n ≡ i = div-add-mod' i n in
    let b : j / n * n + j % n ≡ j = div-add-mod' j n in
    elim (cases_lt (i / n) (j / n)) [
      | inl up ↦ (let more : suc (i / n) * n ≤ j / n * n = mul-le (suc (i / n)) n (j / n) n up (omega arith) in
          let spread : suc (i / n) * n ≡ i / n * n + n = suc-mul (i / n) n in
          omega arith)
      | inr down ↦ (let less : j / n * n ≤ i / n * n = mul-le (j / n) n (i / n) n down (omega arith) in omega arith)
    ]

-- the stock is the same if nothing changes
pub stock_same : (n made given made' given' : ℕ) (put got put' got' : ℕ → Option Moved) (item item' : ℕ → Moved)
    → made' ≡ made → given' ≡ given → ((i : ℕ) → put' i ≡ put i) → ((i : ℕ) → got' i ≡ got i) → ((j : ℕ) → j < n → item' j ≡ item j) → 0 < n
    → IsStocked n made given put got item → IsStocked n made' given' put' got' item'
stock_same n made given made' given' put got put' got' item item' em eg ep eq ei some s =
    let room : made ≤ given + n = s.room in
    let order : given ≤ made = s.order in
    record {
      room = omega arith;
      order = omega arith;
      held = λ i lt. (let k = s.held i (omega arith) in
          (k.0, ep i ∙ k.1, λ le. ei (i % n) (mod_below i n some) ∙ k.2 (omega arith)));
      taken = λ i lt. (let k = s.taken i (omega arith) in
          (k.0, k.1, eq i ∙ k.2, ep i ∙ k.3, k.4));
    }

-- the next item is put, if there is room for it
pub stock_put : (n made given made' given' w v : ℕ) (put got put' got' : ℕ → Option Moved) (item item' : ℕ → Moved)
    → made' ≡ 1 + made → given' ≡ given → put' made ≡ Some (record { worker = w; item = v }) → ((i : ℕ) → (made == i) ≡ false → put' i ≡ put i) → ((i : ℕ) → got' i ≡ got i)
    → item' (made % n) ≡ record { worker = w; item = v } → ((j : ℕ) → j < n → (made % n == j) ≡ false → item' j ≡ item j) → 0 < n → made < given + n
    → IsStocked n made given put got item → IsStocked n made' given' put' got' item'
stock_put n made given made' given' w v put got put' got' item item' em eg here ep eq new ei some room s =
    let order : given ≤ made = s.order in
    record {
      room = omega arith;
      order = omega arith;
      held = λ i lt. elim (made == i) as (λ b. (made == i) ≡ b → (m : Moved) × (put' i ≡ Some m) × (given' ≤ i → item' (i % n) ≡ m)) [
        | true ↦ λ h. (let same : made ≡ i = eqb-true made i h in
            let P : ℕ → Type 0 = λ k. (m : Moved) × (put' k ≡ Some m) × (given' ≤ k → item' (k % n) ≡ m) in
            subst P same (record { worker = w; item = v }, here, λ le. new))
        | false ↦ λ h. (let other : made ≢ i = eqb-false made i h in
            let k = s.held i (omega arith) in (
              k.0,
              ep i h ∙ k.1,
              λ le. ei (i % n) (mod_below i n some) (ne_eqb (made % n) (i % n) (λ e. apart_mod n i made (omega arith) (omega arith) (sym e))) ∙ k.2 (omega arith),
            ))
      ] refl;
      taken = λ i lt. (let k = s.taken i (omega arith) in
          (k.0, k.1, eq i ∙ k.2, ep i (ne_eqb made i (λ e. omega arith)) ∙ k.3, k.4));
    }

-- the item that comes next is the one that is got
pub stock_get : (n made given made' given' w v : ℕ) (put got put' got' : ℕ → Option Moved) (item item' : ℕ → Moved)
    → made' ≡ made → given' ≡ 1 + given → ((i : ℕ) → put' i ≡ put i) → got' given ≡ Some (record { worker = w; item = v }) → ((i : ℕ) → (given == i) ≡ false → got' i ≡ got i)
    → ((j : ℕ) → item' j ≡ item j) → v ≡ (item (given % n)).item → given < made
    → IsStocked n made given put got item → IsStocked n made' given' put' got' item'
stock_get n made given made' given' w v put got put' got' item item' em eg ep here eq ei is some s =
    let room : made ≤ given + n = s.room in
    let order : given ≤ made = s.order in
    record {
      room = omega arith;
      order = omega arith;
      held = λ i lt. (let k = s.held i (omega arith) in
          (k.0, ep i ∙ k.1, λ le. ei (i % n) ∙ k.2 (omega arith)));
      taken = λ i lt. elim (given == i) as (λ b. (given == i) ≡ b → (c : Moved) × (m : Moved) × (got' i ≡ Some c) × (put' i ≡ Some m) × (c.item ≡ m.item)) [
        | true ↦ λ h. (let same : given ≡ i = eqb-true given i h in
            let P : ℕ → Type 0 = λ z. (c : Moved) × (m : Moved) × (got' z ≡ Some c) × (put' z ≡ Some m) × (c.item ≡ m.item) in
            let k = s.held given some in
            subst P same (record { worker = w; item = v }, k.0, here, ep given ∙ k.1, is ∙ ap (λ (m : Moved). m.item) (k.2 (omega arith))))
        | false ↦ λ h. (let other : given ≢ i = eqb-false given i h in
            let k = s.taken i (omega arith) in
            (k.0, k.1, eq i h ∙ k.2, ep i ∙ k.3, k.4))
      ] refl;
    }
