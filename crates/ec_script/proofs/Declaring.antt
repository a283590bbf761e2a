-- Invariants of a header: its words name declared workers, and no two of its groups share an
-- object.
use Rattle.std.proofs.Common.{◌≡◌, ℕ, ◌+◌, ◌<◌, ◌≤◌, List, [], ◌∷◌, ◌++◌, length, Bool, true, false, cond, eqb, Option, Some, None, option_and_then, Result, Ok, Err, refl, sym, ap, ◌∙◌, subst, arith, bytes_eq, codes, ne_eqb}
use Rattle.std.specs.List.{AllByRecursion}
use Rattle.std.specs.Option.{option_map_or}
use Rattle.ec_count.specs.Names.{find_name}
use Rattle.ec_count.specs.declared.target.Target.{Target}
use Rattle.ec_count.specs.declared.target.Target.TheVariants.{Worker}
use Rattle.ec_text.specs.Words.{words_of}
use Rattle.ec_heading.specs.declared.version.Version.{Version}
use Rattle.ec_heading.specs.declared.decl_kind.DeclKind.{DeclKind}
use Rattle.ec_heading.specs.declared.decl_kind.DeclKind.TheVariants as sorts
use Rattle.ec_heading.specs.declared.heading.HeadFault.{HeadFault}
use Rattle.ec_heading.specs.declared.heading.HeadFault.TheVariants as faults
use Rattle.ec_heading.specs.Objects.{Next, objects_of, spelled_objects}
use Rattle.ec_heading.specs.HeadingModel.{HeadingModel}
use Rattle.ec_heading.specs.HeaderTree.{Declaration, empty_heading, number_names, next_ids, with_declaration, with_objects}
use Rattle.ec_heading.specs.Form.{Phrase, parts_in}
use Rattle.ec_heading.specs.Kinds.{workers_fault, declaration_of, declaration_fault}
use Rattle.ec_heading.specs.Lists.{target_worker, worker_in, ids_in}
use Rattle.ec_heading.specs.Heading.{head_step, words_step, workers_in, opened_by, declared_or, fault_or, is_no_line}
use Rattle.ec_script.proofs.Apart.{KeepApart, none_apart, declared_apart}
use Rattle.ec_heading.proofs.shared.Listed.{Named}
use Rattle.ec_heading.proofs.shared.Declarable.{keeps_workers as workers_stay}

-- WORDS

-- if the target of a word is a worker, it is one of n
abbrev IsBelow : ℕ → Target → Type 0
IsBelow n (Worker w) = w < n
IsBelow n _ = Unit {0}

abbrev pub AreBelow : ℕ → Named → Type 0
AreBelow n es = AllByRecursion (λ (e : List ℕ × Target). IsBelow n e.1) es

below_target : (n : ℕ) (t : Target) (w : ℕ) → IsBelow n t → target_worker t ≡ Some w → w < n
below_target n (Worker v) w below is = let e : v ≡ w = cc in subst (λ i. i < n) e below
below_target n _ w below is = cc

-- a worker that is found is one of them
pub found_below : (n : ℕ) (es : Named) (word : List ℕ) (w : ℕ) → AreBelow n es → worker_in es word ≡ Some w → w < n
found_below n [] word w below is = cc
found_below n (e ∷ es) word w below is =
    let P : Bool → Type 0 = λ b. option_and_then target_worker (cond b (Some e.1) (find_name word es)) ≡ Some w → w < n in
    let go : P (bytes_eq word e.0) = elim (bytes_eq word e.0) as P [ true ↦ λ f. below_target n e.1 w below.0 f | false ↦ λ f. found_below n es word w below.1 f ] in
    go is

one_below : (n : ℕ) (o : Option ℕ) (ids : List ℕ) → ((w : ℕ) → o ≡ Some w → w < n) → AllByRecursion (λ w. w < n) ids → AllByRecursion (λ w. w < n) (option_map_or (λ i. i ∷ ids) o ids)
one_below n None ids found below = below
one_below n (Some i) ids found below = (found i refl, below)

-- so is each of a list
pub ids_below : (n : ℕ) (es : Named) (ws : List (List ℕ)) → AreBelow n es → AllByRecursion (λ w. w < n) (ids_in es ws)
ids_below n es [] below = tt
ids_below n es (v ∷ ws) below = one_below n (worker_in es v) (ids_in es ws) (λ w is. found_below n es v w below is) (ids_below n es ws below)

below_append : (n : ℕ) (es fs : Named) → AreBelow n es → AreBelow n fs → AreBelow n (es ++ fs)
below_append n [] fs a b = b
below_append n (e ∷ es) fs a b = (a.0, below_append n es fs a.1 b)

numbered_below : (ws : List (List ℕ)) (k n : ℕ) → k + length ws ≤ n → AreBelow n (number_names k ws)
numbered_below [] k n few = tt
numbered_below (w ∷ ws) k n few = (omega (arith, few), numbered_below ws (k + 1) n (omega (arith, few)))

objects_below : (m : ℕ) (s : DeclKind) (k : Next) (n : ℕ) → AreBelow m (objects_of s k n)
objects_below m sorts.EventCount k n = (tt, tt)
objects_below m sorts.Sequencer k n = (tt, tt)
objects_below m sorts.Cells k n = (tt, tt)
objects_below m sorts.Buffer k n = (tt, (tt, (tt, (tt, (tt, tt)))))
objects_below m sorts.Database k n = (tt, (tt, (tt, (tt, tt))))
objects_below m sorts.Semaphore k n = (tt, (tt, (tt, tt)))
objects_below m sorts.Both k n = (tt, (tt, (tt, tt)))

spelled_below : (m : ℕ) (name : List ℕ) (os : Named) → AreBelow m os → AreBelow m (spelled_objects name os)
spelled_below m name [] below = tt
spelled_below m name (o ∷ os) below = (below.0, spelled_below m name os below.1)

-- A HEADER

pub record HeadKeeps (h : HeadingModel) : Type 0 where
  pub some : 1 ≤ h.setup.workers
  pub words : AreBelow h.setup.workers h.words
  pub apart : KeepApart h.setup h.groups

pub opened_keeps : (version : Version) (limit : ℕ) (ws : List (List ℕ)) → 1 ≤ length ws → HeadKeeps (empty_heading version limit ws)
opened_keeps version limit ws some = record {
  some = some;
  words = numbered_below ws 0 (length ws) (omega arith);
  apart = none_apart (empty_heading version limit ws).setup;
}

pub declared_keeps : (h : HeadingModel) (d : Declaration) → HeadKeeps h
    → HeadKeeps (with_declaration h d)
declared_keeps h d keeps =
    let e : (with_objects d.sort h.setup d.number d.first d.second).workers ≡ h.setup.workers = workers_stay d.sort h.setup d.number d.first d.second in
    record {
      some = subst (λ (n : ℕ). 1 ≤ n) (sym e) keeps.some;
      words = subst (λ (n : ℕ). AreBelow n (h.words ++ spelled_objects d.name (objects_of d.sort (next_ids h) d.number))) (sym e)
          (below_append h.setup.workers h.words _ keeps.words (spelled_below h.setup.workers d.name _ (objects_below h.setup.workers d.sort (next_ids h) d.number)));
      apart = declared_apart d.sort h.setup d.number d.first d.second h.groups keeps.apart;
    }

-- ITS LINES

passes : (o : Option HeadFault) (h t : HeadingModel) → fault_or o h ≡ Ok t → h ≡ t
passes None h t is = cc
passes (Some f) h t is = cc

pub not_refused : (b : Bool) (f : HeadFault) (r : Result HeadingModel HeadFault) (t : HeadingModel) → cond b (Err f) r ≡ Ok t → r ≡ Ok t
not_refused true f r t is = cc
not_refused false f r t is = is

opened_step : (version : Version) (limit : ℕ) (o : Option (List (List ℕ))) (t : HeadingModel) → ((ws : List (List ℕ)) → o ≡ Some ws → 1 ≤ length ws) → opened_by version limit o ≡ Ok t → HeadKeeps t
opened_step version limit None t some is = cc
opened_step version limit (Some ws) t some is = subst HeadKeeps (passes (workers_fault ws) (empty_heading version limit ws) t is) (opened_keeps version limit ws (some ws refl))

some_if : (b : Bool) (v : List ℕ) (vs ws : List (List ℕ)) → cond b (Some (v ∷ vs)) None ≡ Some ws → 1 ≤ length ws
some_if true v vs ws is = let e : v ∷ vs ≡ ws = cc in omega (arith, ap length e)
some_if false v vs ws is = cc

some_workers : (words ws : List (List ℕ)) → workers_in words ≡ Some ws → 1 ≤ length ws
some_workers [] ws is = cc
some_workers (w ∷ []) ws is = cc
some_workers (w ∷ v ∷ vs) ws is = some_if (bytes_eq w (codes "workers")) v vs ws is

-- the line of the workers
pub first_keeps : (version : Version) (limit : ℕ) (line : List ℕ) (t : HeadingModel) → head_step (empty_heading version limit []) line ≡ Ok t → HeadKeeps t
unfolding head_step
first_keeps version limit line t is =
    opened_step version limit (workers_in (words_of line)) t (some_workers (words_of line)) (not_refused (is_no_line line) faults.BadLine (words_step (empty_heading version limit []) (words_of line)) t is)

-- a header with these invariants, of as many workers
pub record Grows (old new : HeadingModel) : Type 0 where
  pub keeps : HeadKeeps new
  pub workers : new.setup.workers ≡ old.setup.workers

declared_step : (h : HeadingModel) (o : Option Phrase) (t : HeadingModel) → HeadKeeps h → declared_or h o ≡ Ok t → Grows h t
declared_step h None t keeps is = cc
declared_step h (Some p) t keeps is =
    let d = declaration_of h.words p in
    subst (Grows h) (passes (declaration_fault h.setup h.words p) (with_declaration h d) t is)
    (record { keeps = declared_keeps h d keeps; workers = workers_stay d.sort h.setup d.number d.first d.second })

-- a declaration
pub head_grows : (h : HeadingModel) (line : List ℕ) (t : HeadingModel) → HeadKeeps h → head_step h line ≡ Ok t → Grows h t
unfolding head_step
head_grows h line t keeps is =
    let some : eqb h.setup.workers 0 ≡ false = ne_eqb _ _ (λ e. (let k : 1 ≤ h.setup.workers = keeps.some in omega (arith, k, e))) in
    let step = not_refused (is_no_line line) faults.BadLine (words_step h (words_of line)) t is in
    declared_step h (parts_in (words_of line)) t keeps
    (ap (λ (b : Bool). cond b (opened_by h.version h.setup.limit (workers_in (words_of line))) (declared_or h (parts_in (words_of line)))) (sym some) ∙ step)
