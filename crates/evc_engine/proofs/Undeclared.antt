-- What is not declared was never raised.
use Rattle.std.proofs.Common.{◌≡◌, ℕ, zero, suc, ◌+◌, ◌≤◌, ◌==◌, true, false, List, [], ◌∷◌, length, Some, None, refl, ap, sym, ◌∙◌, arith, cond, nat_lt, slice_get, reverse, unwrap_or}
use Rattle.std.specs.Option.{option_map_or}
use Rattle.std.proofs.lemmas.Bool.Decides.{nat_tests}
use Rattle.ec_count.specs.Tables.{Tables}
use Rattle.ec_count.specs.declared.setup.Rights.{Rights}
use Rattle.ec_core.specs.declared.act.Act.{Act}
use Rattle.ec_core.specs.declared.act.Act.TheVariants.{Ticket, Put}
use Rattle.ec_core.specs.declared.act.Entry.{Entry}
use Rattle.ec_core.specs.Counts.{total, issued, cell_value, component_total, sum_to, is_ticket, put_in}
use Rattle.ec_core.specs.Acceptance.{IsAccepted, names_unknown_object}
use Rattle.ec_core.specs.Standing.{State, StandsFor}
use Rattle.ec_core.proofs.shared.Totals.{total_is}
use Rattle.ec_core.proofs.shared.Answering.{allowed}

-- what is shown of an object, or 0, is its value, if this is 0 for one that is not declared
shown : (n k value : ℕ) → (k ≤ n → value ≡ 0) → unwrap_or (cond (nat_lt n k) (Some value) None) 0 ≡ value
shown n k value none = elim (nat_lt n k) as (λ b. nat_lt n k ≡ b → unwrap_or (cond b (Some value) None) 0 ≡ value) [
  | true ↦ λ q. refl
  | false ↦ λ q. (let far : k ≤ n = grind arith in sym (none far))
] refl

none_at : (rows : List Rights) (e : ℕ) → length rows ≤ e → length (option_map_or (λ (r : Rights). r.signal) (slice_get rows e) []) ≡ 0
none_at [] e h = refl
none_at (r ∷ rows) zero h = absurd (omega arith)
none_at (r ∷ rows) (suc e) h = none_at rows e (omega arith)

total_none : (t : Tables) (e : ℕ) (past : List Entry) → IsAccepted t past → length t.events ≤ e → total e past ≡ 0
unfolding sum_to
total_none t e past acc h = sym (total_is t e past acc) ∙ ap (sum_to (λ c. component_total t e c past)) (none_at t.events e h)

-- the total that a world shows, or 0, is that of its history
pub total_shown : (s : State) (h : List Entry) (e : ℕ) → StandsFor s h
    → unwrap_or (cond (nat_lt e (length s.setup.events)) (Some (total e (reverse h))) None) 0 ≡ total e (reverse h)
total_shown s h e st = shown e (length s.setup.events) (total e (reverse h)) (total_none s.setup e (reverse h) st.accepted)

no_ticket : (t : Tables) (q : ℕ) (act : Act) → names_unknown_object t act ≡ false → length t.takers ≤ q → is_ticket q act ≡ false
no_ticket t q (Ticket r) known h = grind (arith, nat_tests)
no_ticket t q act known h = refl

no_put : (t : Tables) (x : ℕ) (act : Act) → names_unknown_object t act ≡ false → length t.cells ≤ x → put_in x act ≡ None
no_put t x (Put y v) known h = (let off : (y == x) ≡ false = grind (arith, nat_tests) in ap (λ b. cond b (Some v) None) off)
no_put t x act known h = refl

issued_none : (t : Tables) (q : ℕ) (past : List Entry) → IsAccepted t past → length t.takers ≤ q → issued q past ≡ 0
unfolding issued
issued_none t q [] acc h = refl
issued_none t q (x ∷ past) acc h =
    (let off = no_ticket t q x.act (allowed t past x.worker x.act x.reply acc.0).0.known h in
    let rest : issued q past ≡ 0 = issued_none t q past acc.1 h in
    ap (λ b. cond b 1 0 + issued q past) off ∙ (let none : 0 + issued q past ≡ 0 = omega arith in none))

cell_none : (t : Tables) (x : ℕ) (past : List Entry) → IsAccepted t past → length t.cells ≤ x → cell_value x past ≡ 0
unfolding cell_value
cell_none t x [] acc h = refl
cell_none t x (y ∷ past) acc h =
    ap (λ o. unwrap_or o (cell_value x past)) (no_put t x y.act (allowed t past y.worker y.act y.reply acc.0).0.known h) ∙ cell_none t x past acc.1 h

-- the tickets that a world shows, or 0, are those of its history
pub issued_shown : (s : State) (h : List Entry) (q : ℕ) → StandsFor s h
    → unwrap_or (cond (nat_lt q (length s.setup.takers)) (Some (issued q (reverse h))) None) 0 ≡ issued q (reverse h)
issued_shown s h q st = shown q (length s.setup.takers) (issued q (reverse h)) (issued_none s.setup q (reverse h) st.accepted)

-- the value of a cell that a world shows, or 0, is that of its history
pub cell_shown : (s : State) (h : List Entry) (x : ℕ) → StandsFor s h
    → unwrap_or (cond (nat_lt x (length s.setup.cells)) (Some (cell_value x (reverse h))) None) 0 ≡ cell_value x (reverse h)
cell_shown s h x st = shown x (length s.setup.cells) (cell_value x (reverse h)) (cell_none s.setup x (reverse h) st.accepted)

-- there are at most 256 cells, so a cell with a greater number has the value 0
pub far_cell : (s : State) (h : List Entry) (x : ℕ) → StandsFor s h → 256 ≤ x → cell_value x (reverse h) ≡ 0
far_cell s h x st lt = cell_none s.setup x (reverse h) st.accepted (let few = st.declared.few_cells in omega arith)
