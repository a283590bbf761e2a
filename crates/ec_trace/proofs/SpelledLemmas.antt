-- What one more name changes in tables of words.
use Rattle.std.proofs.Common.{◌≡◌, ℕ, ◌<◌, ◌==◌, if◌then◌else◌, cond, Bool, true, false, List, [], ◌∷◌, Option, None, Some, slice_get, refl, sym, ap, ◌∙◌, subst}
use Rattle.std.specs.Option.{unwrap_or, option_map_or}
use Rattle.std.specs.Borrow.{Bor}
use Rattle.ec_count.specs.declared.target.Target.{Target}
use Rattle.ec_count.specs.declared.target.Target.TheVariants.{Worker, Event, Sequencer, Cells, Group}
use Rattle.ec_heading.specs.Spelling.{NameTable, cell_word}
use Rattle.ec_trace.specs.kept.WordTables.{Spells, word_at, cell_at, cell_name_bytes, with_block}
use Rattle.ec_trace.specs.declared.spell.WordTable.{WordTable}
use Rattle.ec_trace.specs.declared.spell.CellName.{CellName}

abbrev words : List (Bor (List ℕ)) → List (Bor (List ℕ)) → List (Bor (List ℕ)) → List (Option CellName) → WordTable
words ws es qs xs = record { workers = ws; events = es; sequencers = qs; cells = xs }

none_at : (ws : List (Bor (List ℕ))) (w : Bor (List ℕ)) (i : ℕ) → w.now ≡ [] → slice_get ws i ≡ Some w → word_at ws i ≡ []
none_at ws w i empty at = ap (λ (o : Option (Bor (List ℕ))). option_map_or (λ (v : Bor (List ℕ)). v.now) o []) at ∙ empty

-- tables of empty words are those of no names
pub no_words : (ws es qs : List (Bor (List ℕ))) (xs : List (Option CellName)) (w : Bor (List ℕ)) → w.now ≡ []
    → ((i : ℕ) → i < 16 → slice_get ws i ≡ Some w) → ((i : ℕ) → i < 32 → slice_get es i ≡ Some w) → ((i : ℕ) → i < 32 → slice_get qs i ≡ Some w) → ((i : ℕ) → i < 256 → slice_get xs i ≡ Some None)
    → Spells [] (words ws es qs xs)
unfolding cell_word
no_words ws es qs xs w empty at_w at_e at_q at_x = record {
  workers = λ i lt. none_at ws w i empty (at_w i lt);
  events = λ i lt. none_at es w i empty (at_e i lt);
  sequencers = λ i lt. none_at qs w i empty (at_q i lt);
  cells = λ i lt. ap (λ (o : Option (Option CellName)). option_map_or (λ (c : Option CellName). option_map_or cell_name_bytes c []) o []) (at_x i lt);
}

or_word : (b : Bool) (x : List ℕ) (o : Option (List ℕ)) → cond b x (unwrap_or o []) ≡ unwrap_or (cond b (Some x) o) []
or_word true x o = refl
or_word false x o = refl

-- the word of one more number
more : (b : Bool) (x old : List ℕ) (o : Option (List ℕ)) → old ≡ unwrap_or o [] → cond b x old ≡ unwrap_or (cond b (Some x) o) []
more b x old o e = ap (cond b x) e ∙ or_word b x o

pub took_worker : (names : NameTable) (name : List ℕ) (t : Target) (w : ℕ) (old : WordTable) (ws : List (Bor (List ℕ))) → t ≡ Worker w
    → ((i : ℕ) → word_at ws i ≡ (if w == i then name else word_at old.workers i)) → Spells names old → Spells ((name, t) ∷ names) (words ws old.events old.sequencers old.cells)
unfolding cell_word
took_worker names name t w old ws is at h = subst (λ (u : Target). Spells ((name, u) ∷ names) (words ws old.events old.sequencers old.cells)) (sym is) (record {
  workers = λ i lt. at i ∙ more (w == i) name _ _ (h.workers i lt);
  events = h.events;
  sequencers = h.sequencers;
  cells = h.cells;
})

pub took_event : (names : NameTable) (name : List ℕ) (t : Target) (e : ℕ) (old : WordTable) (es : List (Bor (List ℕ))) → t ≡ Event e
    → ((i : ℕ) → word_at es i ≡ (if e == i then name else word_at old.events i)) → Spells names old → Spells ((name, t) ∷ names) (words old.workers es old.sequencers old.cells)
unfolding cell_word
took_event names name t e old es is at h = subst (λ (u : Target). Spells ((name, u) ∷ names) (words old.workers es old.sequencers old.cells)) (sym is) (record {
  workers = h.workers;
  events = λ i lt. at i ∙ more (e == i) name _ _ (h.events i lt);
  sequencers = h.sequencers;
  cells = h.cells;
})

pub took_sequencer : (names : NameTable) (name : List ℕ) (t : Target) (q : ℕ) (old : WordTable) (qs : List (Bor (List ℕ))) → t ≡ Sequencer q
    → ((i : ℕ) → word_at qs i ≡ (if q == i then name else word_at old.sequencers i)) → Spells names old → Spells ((name, t) ∷ names) (words old.workers old.events qs old.cells)
unfolding cell_word
took_sequencer names name t q old qs is at h = subst (λ (u : Target). Spells ((name, u) ∷ names) (words old.workers old.events qs old.cells)) (sym is) (record {
  workers = h.workers;
  events = h.events;
  sequencers = λ i lt. at i ∙ more (q == i) name _ _ (h.sequencers i lt);
  cells = h.cells;
})

pub took_cells : (names : NameTable) (name : List ℕ) (t : Target) (first n : ℕ) (old : WordTable) (xs : List (Option CellName)) → t ≡ Cells first n
    → ((x : ℕ) → x < 256 → cell_at xs x ≡ with_block name first n x (cell_at old.cells x)) → Spells names old → Spells ((name, t) ∷ names) (words old.workers old.events old.sequencers xs)
unfolding cell_word
took_cells names name t first n old xs is at h = subst (λ (u : Target). Spells ((name, u) ∷ names) (words old.workers old.events old.sequencers xs)) (sym is) (record {
  workers = h.workers;
  events = h.events;
  sequencers = h.sequencers;
  cells = λ x lt. at x lt ∙ ap (with_block name first n x) (h.cells x lt);
})

pub took_group : (names : NameTable) (name : List ℕ) (t : Target) (i : ℕ) (old : WordTable) → t ≡ Group i → Spells names old → Spells ((name, t) ∷ names) old
unfolding cell_word
took_group names name t i old is h = subst (λ (u : Target). Spells ((name, u) ∷ names) old) (sym is) (record {
  workers = h.workers;
  events = h.events;
  sequencers = h.sequencers;
  cells = h.cells;
})
