-- The steps of a builder.
use Rattle.std.proofs.Common.{◌≡◌, ℕ, ◌+◌, ◌-◌, ◌≤◌, ◌<◌, Bool, true, false, ◌&&◌, ◌==◌, List, [], ◌∷◌, ◌++◌, length, map, max, replicate, append_assoc, append-nil, arith, rules, sym, ◌∙◌, ap, ap₂, refl, zero, suc, subst, nat_le, zero-add, add-zero, ne_eqb}
use Rattle.std.specs.List.{list_all}
use Rattle.std.specs.Global.{Vec}
use Rattle.std.proofs.lemmas.List.{length-append, length-map}
use Rattle.std.proofs.lemmas.List.Sums.{sum-map, sum_by_push}
use Rattle.std.proofs.lemmas.Bool.{and_parts, and_from}
use Rattle.ec_database.specs.Shapes.{Database}
use Rattle.ec_machine.specs.declared.command.Value.{Value}
use Rattle.ec_machine.specs.declared.command.Command.{Command}
use Rattle.ec_machine.specs.declared.command.Command.TheViews.{roll-Command, out-Command, roll-out-Command}
use Rattle.ec_machine.specs.declared.command.Command.TheVariants.{Repeat, WriteAll, rolls-Repeat, rolls-Advance, rolls-Read, rolls-Await, rolls-Ticket, rolls-Put, rolls-Get, rolls-Hand, rolls-Produce, rolls-Consume, rolls-WriteAll, rolls-Snapshot, rolls-Down, rolls-Up, rolls-DownBoth}
use Rattle.ec_machine.specs.declared.command.Command.TheOpen as layer
use Rattle.ec_machine.specs.declared.command.Command.TheFolds.{fold-roll-Command}
use Rattle.ec_machine.specs.Limits.{is_sound, is_sound_one, sound_step, is_value, nesting, nesting_one, nesting_step, count, count_one, count_step}
use Rattle.ec_script.specs.declared.block_item.BlockItem.{BlockItem}
use Rattle.ec_script.specs.declared.block_item.BlockItem.TheVariants.{Do, Write, Begin, End}
use Rattle.ec_script.specs.declared.draft.OpenRepeat.{OpenRepeat}
use Rattle.ec_script.specs.DraftModel.{DraftModel, draft_with_command, draft_with_repeat, draft_with_end}
use Rattle.ec_script.specs.Flat.{flat, flat_one, flat_step, all_of, is_plain, plain_step}
use Rattle.ec_script.specs.kept.Inner.{begun, inner_command_count, IsPart, IsOpen, AreOpen, IsDraft}

abbrev pub view_of : List OpenRepeat → List Command → ℕ → DraftModel
view_of os cs n = record { block_items = begun os ++ flat cs; depth = length os; is_empty = length cs == 0; commands = n }

-- REPEATS

flat_repeat : (n : ℕ) (b : Vec Command) → flat_one (Repeat n b) ≡ Begin n ∷ (flat b.items ++ End ∷ [])
flat_repeat n b = ap flat_one (sym (rolls-Repeat n b)) ∙ fold-roll-Command (List BlockItem) flat_step (layer.Repeat n b)

nesting_repeat : (n : ℕ) (b : Vec Command) → nesting_one (Repeat n b) ≡ nesting b.items + 1
nesting_repeat n b = ap nesting_one (sym (rolls-Repeat n b)) ∙ fold-roll-Command ℕ nesting_step (layer.Repeat n b)

count_repeat : (n : ℕ) (b : Vec Command) → count_one (Repeat n b) ≡ count b.items + 1
count_repeat n b = ap count_one (sym (rolls-Repeat n b)) ∙ fold-roll-Command ℕ count_step (layer.Repeat n b)

sound_repeat : (n : ℕ) (b : Vec Command) → is_sound_one (Repeat n b) ≡ (nat_le 1 n && nat_le n 1000000 && nat_le 1 (length (map is_sound_one b.items)) && is_sound b.items)
sound_repeat n b = ap is_sound_one (sym (rolls-Repeat n b)) ∙ fold-roll-Command Bool sound_step (layer.Repeat n b)

-- COMMANDS WITHOUT A BLOCK

-- a command that is one line
pub record IsLine (c : Command) (o : BlockItem) : Type 0 where
  pub flat : flat_one c ≡ o ∷ []
  pub nesting : nesting_one c ≡ 0
  pub count : count_one c ≡ 1

plain_roll : (d : layer.Command-F Command) → is_plain (roll-Command d) ≡ true → IsLine (roll-Command d) (Do (roll-Command d))
plain_roll (layer.Advance e) is = record { flat = fold-roll-Command (List BlockItem) flat_step (layer.Advance e) ∙ ap (λ x. Do x ∷ []) (sym (rolls-Advance e)); nesting = fold-roll-Command ℕ nesting_step (layer.Advance e); count = fold-roll-Command ℕ count_step (layer.Advance e) }
plain_roll (layer.Read e) is = record { flat = fold-roll-Command (List BlockItem) flat_step (layer.Read e) ∙ ap (λ x. Do x ∷ []) (sym (rolls-Read e)); nesting = fold-roll-Command ℕ nesting_step (layer.Read e); count = fold-roll-Command ℕ count_step (layer.Read e) }
plain_roll (layer.Await e v) is = record { flat = fold-roll-Command (List BlockItem) flat_step (layer.Await e v) ∙ ap (λ x. Do x ∷ []) (sym (rolls-Await e v)); nesting = fold-roll-Command ℕ nesting_step (layer.Await e v); count = fold-roll-Command ℕ count_step (layer.Await e v) }
plain_roll (layer.Ticket q) is = record { flat = fold-roll-Command (List BlockItem) flat_step (layer.Ticket q) ∙ ap (λ x. Do x ∷ []) (sym (rolls-Ticket q)); nesting = fold-roll-Command ℕ nesting_step (layer.Ticket q); count = fold-roll-Command ℕ count_step (layer.Ticket q) }
plain_roll (layer.Put x v) is = record { flat = fold-roll-Command (List BlockItem) flat_step (layer.Put x v) ∙ ap (λ x. Do x ∷ []) (sym (rolls-Put x v)); nesting = fold-roll-Command ℕ nesting_step (layer.Put x v); count = fold-roll-Command ℕ count_step (layer.Put x v) }
plain_roll (layer.Get x) is = record { flat = fold-roll-Command (List BlockItem) flat_step (layer.Get x) ∙ ap (λ x. Do x ∷ []) (sym (rolls-Get x)); nesting = fold-roll-Command ℕ nesting_step (layer.Get x); count = fold-roll-Command ℕ count_step (layer.Get x) }
plain_roll (layer.Hand e b) is = record { flat = fold-roll-Command (List BlockItem) flat_step (layer.Hand e b) ∙ ap (λ x. Do x ∷ []) (sym (rolls-Hand e b)); nesting = fold-roll-Command ℕ nesting_step (layer.Hand e b); count = fold-roll-Command ℕ count_step (layer.Hand e b) }
plain_roll (layer.Produce b v) is = record { flat = fold-roll-Command (List BlockItem) flat_step (layer.Produce b v) ∙ ap (λ x. Do x ∷ []) (sym (rolls-Produce b v)); nesting = fold-roll-Command ℕ nesting_step (layer.Produce b v); count = fold-roll-Command ℕ count_step (layer.Produce b v) }
plain_roll (layer.Consume b) is = record { flat = fold-roll-Command (List BlockItem) flat_step (layer.Consume b) ∙ ap (λ x. Do x ∷ []) (sym (rolls-Consume b)); nesting = fold-roll-Command ℕ nesting_step (layer.Consume b); count = fold-roll-Command ℕ count_step (layer.Consume b) }
plain_roll (layer.WriteAll d vs) is = let f = fold-roll-Command Bool plain_step (layer.WriteAll d vs) in let e : false ≡ true = sym f ∙ is in cc
plain_roll (layer.Snapshot d n) is = record { flat = fold-roll-Command (List BlockItem) flat_step (layer.Snapshot d n) ∙ ap (λ x. Do x ∷ []) (sym (rolls-Snapshot d n)); nesting = fold-roll-Command ℕ nesting_step (layer.Snapshot d n); count = fold-roll-Command ℕ count_step (layer.Snapshot d n) }
plain_roll (layer.Down s) is = record { flat = fold-roll-Command (List BlockItem) flat_step (layer.Down s) ∙ ap (λ x. Do x ∷ []) (sym (rolls-Down s)); nesting = fold-roll-Command ℕ nesting_step (layer.Down s); count = fold-roll-Command ℕ count_step (layer.Down s) }
plain_roll (layer.Up s) is = record { flat = fold-roll-Command (List BlockItem) flat_step (layer.Up s) ∙ ap (λ x. Do x ∷ []) (sym (rolls-Up s)); nesting = fold-roll-Command ℕ nesting_step (layer.Up s); count = fold-roll-Command ℕ count_step (layer.Up s) }
plain_roll (layer.DownBoth r s t) is = record { flat = fold-roll-Command (List BlockItem) flat_step (layer.DownBoth r s t) ∙ ap (λ x. Do x ∷ []) (sym (rolls-DownBoth r s t)); nesting = fold-roll-Command ℕ nesting_step (layer.DownBoth r s t); count = fold-roll-Command ℕ count_step (layer.DownBoth r s t) }
plain_roll (layer.Repeat n b) is = let f = fold-roll-Command Bool plain_step (layer.Repeat n b) in let e : false ≡ true = sym f ∙ is in cc

pub plain_line : (c : Command) → is_plain c ≡ true → IsLine c (Do c)
plain_line c is =
    let e = roll-out-Command c in
    subst (λ x. IsLine x (Do x)) e (plain_roll (out-Command c) (ap is_plain e ∙ is))

pub write_line : (d : Database) (vs : Vec Value) → IsLine (WriteAll d vs) (Write d vs.items)
write_line d vs = record {
  flat = ap flat_one (sym (rolls-WriteAll d vs)) ∙ fold-roll-Command (List BlockItem) flat_step (layer.WriteAll d vs);
  nesting = ap nesting_one (sym (rolls-WriteAll d vs)) ∙ fold-roll-Command ℕ nesting_step (layer.WriteAll d vs);
  count = ap count_one (sym (rolls-WriteAll d vs)) ∙ fold-roll-Command ℕ count_step (layer.WriteAll d vs);
}

pub write_sound : (d : Database) (vs : Vec Value) → (length vs.items == d.cells) ≡ true → list_all is_value vs.items ≡ true → is_sound_one (WriteAll d vs) ≡ true
write_sound d vs as_many sound =
    ap is_sound_one (sym (rolls-WriteAll d vs)) ∙ fold-roll-Command Bool sound_step (layer.WriteAll d vs) ∙ and_from _ _ as_many sound

-- ONE MORE

flat_push : (cs : List Command) (c : Command) → flat (cs ++ c ∷ []) ≡ flat cs ++ flat_one c
unfolding all_of
flat_push [] c = append-nil (flat_one c)
flat_push (d ∷ cs) c = ap (λ xs. flat_one d ++ xs) (flat_push cs c) ∙ sym (append_assoc (flat_one d) (flat cs) (flat_one c))

sound_push : (cs : List Command) (c : Command) → is_sound cs ≡ true → is_sound_one c ≡ true → is_sound (cs ++ c ∷ []) ≡ true
sound_push [] c sound one = and_from _ _ one refl
sound_push (d ∷ cs) c sound one =
    let both = and_parts (is_sound_one d) (is_sound cs) sound in
    and_from _ _ both.0 (sound_push cs c both.1 one)

nesting_push : (cs : List Command) (c : Command) → nesting (cs ++ c ∷ []) ≡ max (nesting cs) (nesting_one c)
nesting_push [] c = omega arith
nesting_push (d ∷ cs) c = omega (arith, nesting_push cs c)

count_push : (cs : List Command) (c : Command) → count (cs ++ c ∷ []) ≡ count cs + count_one c
count_push cs c = sum-map count_one (cs ++ c ∷ []) ∙ sum_by_push count_one cs c ∙ ap (λ n. n + count_one c) (sym (sum-map count_one cs))

begun_push : (os : List OpenRepeat) (o : OpenRepeat) → begun (os ++ o ∷ []) ≡ begun os ++ (flat o.before.items ++ Begin o.times ∷ [])
unfolding begun
begun_push [] o = refl
begun_push (p ∷ os) o = ap (λ xs. flat p.before.items ++ Begin p.times ∷ xs) (begun_push os o) ∙ sym (append_assoc (flat p.before.items) (Begin p.times ∷ begun os) (flat o.before.items ++ Begin o.times ∷ []))

counted_push : (os : List OpenRepeat) (o : OpenRepeat) → inner_command_count (os ++ o ∷ []) ≡ inner_command_count os + (count o.before.items + 1)
counted_push [] o = omega arith
counted_push (p ∷ os) o = omega (arith, counted_push os o)

open_push : (depth : ℕ) (os : List OpenRepeat) (o : OpenRepeat) → AreOpen depth os → IsOpen (depth + length os) o → AreOpen depth (os ++ o ∷ [])
open_push depth [] o are one = (subst (λ n. IsOpen n o) (add-zero depth) one, tt)
open_push depth (p ∷ os) o are one = (are.0, open_push (depth + 1) os o are.1 (let e : depth + 1 + length os ≡ depth + length (p ∷ os) = omega arith in rw e one))

open_pop : (depth : ℕ) (os : List OpenRepeat) (o : OpenRepeat) → AreOpen depth (os ++ o ∷ []) → AreOpen depth os × IsOpen (depth + length os) o
open_pop depth [] o are = (tt, subst (λ n. IsOpen n o) (sym (add-zero depth)) are.0)
open_pop depth (p ∷ os) o are =
    let more = open_pop (depth + 1) os o are.1 in
    let e : depth + 1 + length os ≡ depth + length (p ∷ os) = omega arith in
    ((are.0, more.0), rw (← e) more.1)

-- THE STEPS

none_long : (cs : List Command) (c : Command) → (length (cs ++ c ∷ []) == 0) ≡ false
none_long cs c = ne_eqb _ _ (λ e. let n = length-append cs (c ∷ []) in omega (arith, n, e))

flat_nil : flat [] ≡ []
unfolding all_of
flat_nil = refl

pub added_is : (os : List OpenRepeat) (cs new : List Command) (n : ℕ) (c : Command) (o : BlockItem) → new ≡ cs ++ c ∷ [] → IsLine c o → view_of os new (n + 1) ≡ draft_with_command (view_of os cs n) o
added_is os cs new n c o is line =
    let f : begun os ++ flat new ≡ (begun os ++ flat cs) ++ o ∷ [] =
    ap (λ xs. begun os ++ flat xs) is ∙ ap (λ xs. begun os ++ xs) (flat_push cs c ∙ ap (λ xs. flat cs ++ xs) line.flat) ∙ sym (append_assoc (begun os) (flat cs) (o ∷ [])) in
    ap₂ (λ xs b. record { block_items = xs; depth = length os; is_empty = b; commands = n + 1 }) f (ap (λ xs. length xs == 0) is ∙ none_long cs c)

pub added_fits : (os : List OpenRepeat) (cs new : List Command) (n : ℕ) (c : Command) (o : BlockItem) → new ≡ cs ++ c ∷ [] → IsLine c o → is_sound_one c ≡ true → n < 4096 → IsDraft os cs n → IsDraft os new (n + 1)
added_fits os cs new n c o is line sound room d =
    let k = ap count is ∙ count_push cs c in
    record {
      outer = d.outer;
      current = record {
        sound = ap is_sound is ∙ sound_push cs c d.current.sound sound;
        nesting = let m = ap nesting is ∙ nesting_push cs c in omega (arith, m, line.nesting, d.current.nesting);
      };
      enough = omega (arith, k, line.count, d.enough);
      few = omega (arith, room);
    }

pub opened_is : (os news : List OpenRepeat) (cs : List Command) (n : ℕ) (o : OpenRepeat) → news ≡ os ++ o ∷ [] → o.before.items ≡ cs → view_of news [] (n + 1) ≡ draft_with_repeat (view_of os cs n) o.times
opened_is os news cs n o is before =
    let f : begun news ++ flat [] ≡ (begun os ++ flat cs) ++ Begin o.times ∷ [] =
    ap (λ xs. begun news ++ xs) flat_nil ∙ append-nil (begun news) ∙ ap begun is ∙ begun_push os o ∙ ap (λ xs. begun os ++ (flat xs ++ Begin o.times ∷ [])) before ∙ sym (append_assoc (begun os) (flat cs) (Begin o.times ∷ [])) in
    let m : length news ≡ length os + 1 = omega (arith, ap length is, length-append os (o ∷ [])) in
    ap₂ (λ xs k. record { block_items = xs; depth = k; is_empty = true; commands = n + 1 }) f m

pub opened_fits : (os news : List OpenRepeat) (cs : List Command) (n : ℕ) (o : OpenRepeat) → news ≡ os ++ o ∷ [] → o.before.items ≡ cs → 0 < o.times → o.times ≤ 1000000 → length os < 4 → n < 4096 → IsDraft os cs n → IsDraft news [] (n + 1)
opened_fits os news cs n o is before some few deep room d =
    let m : length news ≡ length os + 1 = omega (arith, ap length is, length-append os (o ∷ [])) in
    let k = ap inner_command_count is ∙ counted_push os o in
    let j = ap count before in
    record {
      outer = subst (AreOpen 0) (sym is) (open_push 0 os o d.outer (record {
        part = subst (λ n. IsPart n o.before.items) (sym (zero-add (length os))) (subst (IsPart (length os)) (sym before) d.current);
        some = some;
        few = few;
      }));
      current = record { sound = refl; nesting = omega arith };
      enough = omega (arith, k, j, d.enough);
      few = omega (arith, room);
    }

regroup : (a f g e : List BlockItem) (b : BlockItem) → a ++ (f ++ b ∷ (g ++ e)) ≡ ((a ++ (f ++ b ∷ [])) ++ g) ++ e
regroup a f g e b = sym (simp append_assoc)

pub closed_is : (os olds : List OpenRepeat) (cs before new : List Command) (n : ℕ) (o : OpenRepeat) (b : Vec Command) → olds ≡ os ++ o ∷ [] → o.before.items ≡ before → b.items ≡ cs → new ≡ before ++ Repeat o.times b ∷ [] → view_of os new n ≡ draft_with_end (view_of olds cs n)
closed_is os olds cs before new n o b was first block is =
    let f : begun os ++ flat new ≡ ((begun os ++ (flat before ++ Begin o.times ∷ [])) ++ flat cs) ++ End ∷ [] =
    ap (λ xs. begun os ++ flat xs) is ∙ ap (λ xs. begun os ++ xs) (flat_push before (Repeat o.times b) ∙ ap (λ xs. flat before ++ xs) (flat_repeat o.times b))
    ∙ ap (λ ds. begun os ++ (flat before ++ Begin o.times ∷ (flat ds ++ End ∷ []))) block ∙ regroup (begun os) (flat before) (flat cs) (End ∷ []) (Begin o.times) in
    let g : (begun os ++ (flat before ++ Begin o.times ∷ [])) ≡ begun olds =
    ap (λ ds. begun os ++ (flat ds ++ Begin o.times ∷ [])) (sym first) ∙ sym (begun_push os o) ∙ ap begun (sym was) in
    let m : length os ≡ length olds - 1 = omega (arith, ap length was, length-append os (o ∷ [])) in
    ap (λ xs. record { block_items = xs; depth = length os; is_empty = length new == 0; commands = n }) (f ∙ ap (λ xs. (xs ++ flat cs) ++ End ∷ []) g)
    ∙ ap₂ (λ k e. record { block_items = (begun olds ++ flat cs) ++ End ∷ []; depth = k; is_empty = e; commands = n }) m (ap (λ xs. length xs == 0) is ∙ none_long before (Repeat o.times b))

le_true : (m n : ℕ) → m ≤ n → nat_le m n ≡ true
le_true m n h = search rules

pub closed_fits : (os olds : List OpenRepeat) (cs before new : List Command) (n : ℕ) (o : OpenRepeat) (b : Vec Command) → olds ≡ os ++ o ∷ [] → o.before.items ≡ before → b.items ≡ cs → new ≡ before ++ Repeat o.times b ∷ [] → 0 < length cs → IsDraft olds cs n → IsDraft os new n
closed_fits os olds cs before new n o b was first block is some d =
    let popped = open_pop 0 os o (subst (AreOpen 0) was d.outer) in
    let one = popped.1 in
    let m : length olds ≡ length os + 1 = omega (arith, ap length was, length-append os (o ∷ [])) in
    let l = ap nesting is ∙ nesting_push before (Repeat o.times b) in
    let k = nesting_repeat o.times b in
    let i = ap nesting block in
    let j = ap nesting first in
    let p = ap count is ∙ count_push before (Repeat o.times b) in
    let q = count_repeat o.times b in
    let r = ap count block in
    let s = ap count first in
    let u = ap inner_command_count was ∙ counted_push os o in
    let long : 1 ≤ length (map is_sound_one b.items) = omega (arith, length-map b.items is_sound_one, ap length block, some) in
    record {
      outer = popped.0;
      current = record {
        sound = ap is_sound is ∙ sound_push before (Repeat o.times b) (ap is_sound (sym first) ∙ one.part.sound)
            (sound_repeat o.times b ∙ and_from _ _ (and_from _ _ (and_from _ _ (le_true _ _ (omega (arith, one.some))) (le_true _ _ one.few)) (le_true _ _ long)) (ap is_sound block ∙ d.current.sound));
        nesting = omega (arith, l, k, i, j, one.part.nesting, d.current.nesting, m);
      };
      enough = omega (arith, p, q, r, s, u, d.enough);
      few = d.few;
    }

start_is : view_of [] [] 0 ≡ record { block_items = []; depth = 0; is_empty = true; commands = 0 }
unfolding begun all_of
start_is = refl

pub empty_is : (os : List OpenRepeat) (cs : List Command) → os ≡ [] → cs ≡ [] → view_of os cs 0 ≡ record { block_items = []; depth = 0; is_empty = true; commands = 0 }
empty_is os cs e f = ap₂ (λ os cs. view_of os cs 0) e f ∙ start_is

pub half_fits : (os olds : List OpenRepeat) (cs new : List Command) (n : ℕ) (o : OpenRepeat) → olds ≡ os ++ o ∷ [] → new ≡ o.before.items → IsDraft olds cs n → IsDraft os new n
half_fits os olds cs new n o was is d =
    let popped = open_pop 0 os o (subst (AreOpen 0) was d.outer) in
    let u = ap inner_command_count was ∙ counted_push os o in
    let r = ap count is in
    record {
      outer = popped.0;
      current = subst (IsPart (length os)) (sym is) (subst (λ n. IsPart n o.before.items) (zero-add (length os)) popped.1.part);
      enough = omega (arith, u, r, d.enough);
      few = d.few;
    }

pub some_long : (cs : List Command) → (length cs == 0) ≡ false → 0 < length cs
some_long [] is = cc
some_long (c ∷ cs) is = omega arith

no_begun : (os : List OpenRepeat) → length os ≡ 0 → begun os ≡ []
unfolding begun
no_begun [] is = refl
no_begun (o ∷ os) is = absurd (omega arith)

pub finished : (os : List OpenRepeat) (cs : List Command) (n : ℕ) (d : DraftModel) → view_of os cs n ≡ d → d.depth ≡ 0 → flat cs ≡ d.block_items
finished os cs n d is none =
    let l : length os ≡ 0 = ap (λ (e : DraftModel). e.depth) is ∙ none in
    ap (λ xs. xs ++ flat cs) (sym (no_begun os l)) ∙ ap (λ (e : DraftModel). e.block_items) is

none_flat : (n : ℕ) → map flat (replicate n []) ≡ replicate n []
unfolding all_of
none_flat zero = refl
none_flat (suc n) = ap (λ (xs : List (List BlockItem)). [] ∷ xs) (none_flat n)

-- no program has a line
pub flats_none : (n : ℕ) (programs : List (List Command)) → programs ≡ replicate n [] → map flat programs ≡ replicate n []
flats_none n programs is = ap (map flat) is ∙ none_flat n
