-- The completed calls of a buffer, in the order of their responses, are a legal sequential history.
use Rattle.std.proofs.Common.{◌≡◌, ℕ, ◌+◌, ◌*◌, ◌<◌, ◌≤◌, ◌==◌, List, [], ◌∷◌, ◌++◌, length, Some}
use Rattle.std.proofs.Common.{Bool, false, refl, ap, sym, ◌∙◌, arith, subst, inl, inr, cond}
use Rattle.std.proofs.lemmas.Bool.{eq-eqb, ne_eqb, cases_lt}
use Rattle.ec_count.specs.Tables.{Tables}
use Rattle.ec_core.specs.declared.act.Entry.{Entry}
use Rattle.ec_core.specs.Counts.{total}
use Rattle.ec_buffer.specs.Shapes.{Buffer as Shape}
use Rattle.ec_buffer.proofs.Moves.{puts, Moved, produced}
use Rattle.calls_core.specs.declared.history.Kind.TheVariants.{Buffer}
use Rattle.calls_core.specs.declared.history.Op.TheVariants.{Produce, Consume}
use Rattle.calls_core.specs.declared.history.Reply.TheVariants.{Done, Number}
use Rattle.calls_core.specs.declared.history.Call.{Call}
use Rattle.calls_core.specs.Lists.{Each, EachPair}
use Rattle.calls_core.specs.Histories.{completion}
use Rattle.calls_core.specs.Linearizations.{Gives, after, set_at, IsLegalHistory, initial}
use Rattle.calls_core.specs.Linearizations.{KeepsOrder}
use Rattle.calls_core.proofs.Lists.{each_weaker, each_append, each_pair_append}
use Rattle.calls_kernel.proofs.Pending.{begun}
use Rattle.calls_deliveries.proofs.Standing.{IsOne, produced_stays}

abbrev pub state_after : (ℕ → ℕ) → List Call → ℕ → ℕ
state_after m [] = m
state_after m (c ∷ cs) = state_after (after m c.op c.reply) cs

state_more : (m : ℕ → ℕ) (cs : List Call) (c : Call)
    → state_after m (cs ++ c ∷ []) ≡ after (state_after m cs) c.op c.reply
state_more m [] c = refl
state_more m (d ∷ cs) c = state_more (after m d.op d.reply) cs c

run_more : (m : ℕ → ℕ) (cs : List Call) (c : Call) → IsLegalHistory m cs
    → Gives (state_after m cs) c.op c.reply → IsLegalHistory m (cs ++ c ∷ [])
run_more m [] c run g = (g, tt)
run_more m (d ∷ cs) c run g = (run.0, run_more (after m d.op d.reply) cs c run.1 g)

set_other : (k x j : ℕ) (f : ℕ → ℕ) → (k == j) ≡ false → set_at k x f j ≡ f j
set_other k x j f h = ap (λ c. cond c x (f j)) h

set_there : (k x : ℕ) (f : ℕ → ℕ) → set_at k x f k ≡ x
set_there k x f = ap (λ c. cond c x (f k)) (eq-eqb k k refl)

module _ (b : Shape) (produces : ℕ → Bool) where
  abbrev pub state_of : List Call → ℕ → ℕ
  state_of cs = state_after (initial (Some (Buffer b.cells))) cs

  -- these are the completed calls: the items that they put are the first ones that were put
  pub record IsRunning (past : List Entry) (cs : List Call) : Type 0 where
    pub legal : IsLegalHistory (initial (Some (Buffer b.cells))) cs
    pub early : Each (λ (c : Call). c.first ≤ 2 * length past) cs
    pub in_order : EachPair KeepsOrder cs
    pub room : state_of cs 0 ≡ b.cells
    pub taken : state_of cs 1 ≡ total b.out_count past
    pub put : state_of cs 2 ≡ total b.in_count past
    pub items : (k : ℕ) (m : Moved) → k < total b.in_count past
        → produced b produces k past ≡ Some m → state_of cs (3 + k) ≡ m.item

  pub running_none : IsRunning [] []
  unfolding total
  running_none = record {
    legal = tt;
    early = tt;
    in_order = tt;
    room = refl;
    taken = refl;
    put = refl;
    items = λ k m lt is. absurd (omega arith);
  }

  early_later : (x : Entry) (past : List Entry) (cs : List Call)
      → Each (λ (c : Call). c.first ≤ 2 * length past) cs
      → Each (λ (c : Call). c.first ≤ 2 * length (x ∷ past)) cs
  early_later x past cs h =
      each_weaker (λ (c : Call). c.first ≤ 2 * length past)
      (λ (c : Call). c.first ≤ 2 * length (x ∷ past)) (λ c le. omega arith) cs h

  -- one more call, with its response right after the entry that comes next
  early_more : (x : Entry) (past : List Entry) (cs : List Call) (c : Call)
      → Each (λ (d : Call). d.first ≤ 2 * length past) cs → c.first ≤ 2 * length past
      → Each (λ (d : Call). d.first ≤ 2 * length (x ∷ past)) (cs ++ c ∷ [])
  early_more x past cs c h low =
      each_append (λ (d : Call). d.first ≤ 2 * length (x ∷ past)) cs (c ∷ [])
      (early_later x past cs h) (omega arith, tt)

  order_more : (past : List Entry) (cs : List Call) (c : Call)
      → Each (λ (d : Call). d.first ≤ 2 * length past) cs → EachPair KeepsOrder cs
      → c.last ≡ 2 * length past + 1 → EachPair KeepsOrder (cs ++ c ∷ [])
  order_more past cs c h pairs last =
      each_pair_append KeepsOrder cs (c ∷ []) pairs (tt, tt)
      (each_weaker (λ (d : Call). d.first ≤ 2 * length past)
      (λ (d : Call). Each (KeepsOrder d) (c ∷ []))
      (λ d le. (λ before. (let lt : c.last < d.first = before in absurd (omega arith)), tt)) cs h)

  module _ (t : Tables) (x : Entry) (past : List Entry) (one : IsOne b produces t x past)
      (some : total b.in_count past ≤ puts b past) where
    pub running_stays : (cs : List Call) → total b.in_count (x ∷ past) ≡ total b.in_count past
        → total b.out_count (x ∷ past) ≡ total b.out_count past → IsRunning past cs
        → IsRunning (x ∷ past) cs
    running_stays cs ins outs h = record {
      legal = h.legal;
      early = early_later x past cs h.early;
      in_order = h.in_order;
      room = h.room;
      taken = h.taken ∙ sym outs;
      put = h.put ∙ sym ins;
      items = λ k m lt is. h.items k m (omega arith)
          (sym (produced_stays b produces t x past one k (omega arith)) ∙ is);
    }

    abbrev put_call : ℕ → ℕ → ℕ → Call
    put_call n w v = completion (2 * length past + 1) Done (begun n w 0 (Produce v))

    abbrev got_call : ℕ → ℕ → ℕ → Call
    got_call n w v = completion (2 * length past + 1) (Number v) (begun n w 0 Consume)

    item_is : (cs : List Call) (m : Moved) → IsRunning past cs
        → produced b produces (total b.in_count past) past ≡ Some m → (k : ℕ) (own : Moved)
        → k < 1 + total b.in_count past → produced b produces k past ≡ Some own
        → set_at (3 + state_of cs 2) m.item (state_of cs) (3 + k) ≡ own.item
    item_is cs m h is k own lt own_is =
        let s = state_of cs in
        let at_put : s 2 ≡ total b.in_count past = h.put in
        elim (cases_lt k (total b.in_count past)) [
          | inl less ↦
              set_other (3 + s 2) m.item (3 + k) s (ne_eqb (3 + s 2) (3 + k) (λ e. omega arith))
              ∙ h.items k own less own_is
          | inr le ↦
              (let here : total b.in_count past ≡ k = omega arith in
              let place : 3 + s 2 ≡ 3 + k = omega arith in
              let both : Some m ≡ Some own =
              sym is ∙ ap (λ i. produced b produces i past) here ∙ own_is in
              let same : m ≡ own = cc in
              subst (λ j. set_at (3 + s 2) m.item s j ≡ m.item) place (set_there (3 + s 2) m.item s)
              ∙ ap (λ (z : Moved). z.item) same)
        ]

    -- the item that comes next is put
    pub running_put : (cs : List Call) (n w : ℕ) (m : Moved) → n ≤ 2 * length past
        → total b.in_count (x ∷ past) ≡ 1 + total b.in_count past
        → total b.out_count (x ∷ past) ≡ total b.out_count past
        → total b.in_count past + 1 ≤ total b.out_count past + b.cells
        → total b.in_count past < puts b past
        → produced b produces (total b.in_count past) past ≡ Some m
        → IsRunning past cs → IsRunning (x ∷ past) (cs ++ put_call n w m.item ∷ [])
    running_put cs n w m low ins outs room made is h =
        let c = put_call n w m.item in
        let s = state_of cs in
        let at_room : s 0 ≡ b.cells = h.room in
        let at_taken : s 1 ≡ total b.out_count past = h.taken in
        let at_put : s 2 ≡ total b.in_count past = h.put in
        let more = state_more (initial (Some (Buffer b.cells))) cs c in
        let free : s 2 < s 1 + s 0 = omega arith in
        record {
          legal = run_more (initial (Some (Buffer b.cells))) cs c h.legal free;
          early = early_more x past cs c h.early low;
          in_order = order_more past cs c h.early h.in_order refl;
          room = ap (λ f. f 0) more
              ∙ set_other (3 + s 2) m.item 0 s (ne_eqb (3 + s 2) 0 (λ e. omega arith)) ∙ at_room;
          taken = ap (λ f. f 1) more
              ∙ set_other (3 + s 2) m.item 1 s (ne_eqb (3 + s 2) 1 (λ e. omega arith))
              ∙ at_taken ∙ sym outs;
          put = ap (λ f. f 2) more ∙ omega arith;
          items = λ k k_m lt k_is.
              ap (λ f. f (3 + k)) more
              ∙ set_other 2 (s 2 + 1) (3 + k) (set_at (3 + s 2) m.item s)
              (ne_eqb 2 (3 + k) (λ e. omega arith))
              ∙ item_is cs m h is k k_m (omega arith)
              (sym (produced_stays b produces t x past one k (omega arith)) ∙ k_is);
        }

    -- the item that comes next is taken
    pub running_got : (cs : List Call) (n w v : ℕ) (m : Moved) → n ≤ 2 * length past
        → total b.in_count (x ∷ past) ≡ total b.in_count past
        → total b.out_count (x ∷ past) ≡ 1 + total b.out_count past
        → total b.out_count past + 1 ≤ total b.in_count past
        → produced b produces (total b.out_count past) past ≡ Some m → v ≡ m.item
        → IsRunning past cs → IsRunning (x ∷ past) (cs ++ got_call n w v ∷ [])
    running_got cs n w v m low ins outs more_in is value h =
        let c = got_call n w v in
        let s = state_of cs in
        let at_room : s 0 ≡ b.cells = h.room in
        let at_taken : s 1 ≡ total b.out_count past = h.taken in
        let at_put : s 2 ≡ total b.in_count past = h.put in
        let more = state_more (initial (Some (Buffer b.cells))) cs c in
        let held : s 1 < s 2 = omega arith in
        let next : v ≡ s (3 + s 1) =
        value ∙ sym (h.items (total b.out_count past) m (omega arith) is)
        ∙ ap (λ k. s (3 + k)) (sym at_taken) in
        record {
          legal = run_more (initial (Some (Buffer b.cells))) cs c h.legal (held, next);
          early = early_more x past cs c h.early low;
          in_order = order_more past cs c h.early h.in_order refl;
          room = ap (λ f. f 0) more ∙ at_room;
          taken = ap (λ f. f 1) more ∙ omega arith;
          put = ap (λ f. f 2) more ∙ at_put ∙ sym ins;
          items = λ k own lt own_is.
              ap (λ f. f (3 + k)) more
              ∙ set_other 1 (s 1 + 1) (3 + k) s (ne_eqb 1 (3 + k) (λ e. omega arith))
              ∙ h.items k own (omega arith)
              (sym (produced_stays b produces t x past one k (omega arith)) ∙ own_is);
        }
