-- A line of P on two semaphores has two roles if it names one of them twice.
use Rattle.std.proofs.Common.{◌≡◌, ℕ, Bool, true, false, not, ◌&&◌, ◌||◌, ◌==◌, List, [], ◌∷◌, Option, Some, None, is_some, is_none, option_map, option_and_then, refl, sym, ap, ◌∙◌, subst, bytes_eq}
use Rattle.std.proofs.lemmas.Bool.{true≢false, eq-eqb, ne_eqb, and_from}
use Rattle.std.proofs.lemmas.Option.{same_Some}
use Rattle.ec_count.specs.Tables.{first_that}
use Rattle.ec_semaphore.specs.Shapes.{Semaphore}
use Rattle.ec_machine.specs.Limits.{is_same}
use Rattle.ec_heading.specs.declared.group.Group.{Group}
use Rattle.ec_heading.specs.HeadingModel.{HeadingModel}
use Rattle.ec_heading.specs.Lists.{worker_in}
use Rattle.ec_heading.specs.HeadingInvariant.{IsHeading}
use Rattle.ec_heading.specs.EntryWords.{event_in, sequencer_in, cell_in_word}
use Rattle.ec_heading.proofs.shared.Phrases.{same_word, is_itself}
use Rattle.ec_script.specs.declared.fault.Kind.{Kind}
use Rattle.ec_script.specs.declared.fault.Kind.TheVariants as kinds
use Rattle.ec_script.specs.declared.kinds.BlockContext.{BlockContext}
use Rattle.ec_script.specs.declared.verb.LineWord.{LineWord}
use Rattle.ec_script.specs.declared.verb.LineWord.TheVariants as verbs
use Rattle.ec_script.specs.declared.object.Object.{Object}
use Rattle.ec_script.specs.declared.object.Object.TheVariants.{Worker, Event, Sequencer, Cell, OfBuffer, OfDatabase, OfSemaphore, SemaphorePair}
use Rattle.ec_script.specs.Verbs.{has_verb}
use Rattle.ec_script.specs.Forms.{Phrase, only_in}
use Rattle.ec_script.specs.Objects.{buffer_in, database_in, semaphore_in, semaphore_pair, transfer_object, object_for, object_in, is_owned}
use Rattle.ec_heading.specs.Groups.{both_of}
use Rattle.ec_script.specs.Kinds.{LineContextModel, is_allowed, is_named_again, is_too_many, has_two_roles, or_nothing, phrase_fault}
use Rattle.ec_script.specs.Pairs.{TwoRolesAreOneName, NamesOneTwice, TwoRolesAreReported}
use Rattle.ec_script.proofs.Commons.{common_starts, common_counts}
use Rattle.ec_script.proofs.Confining.{itself as same_itself, found_semaphore}
use Rattle.ec_script.proofs.OneName.{one_name}

-- THE THREE SEMAPHORES OF A LINE

three_parts : (a b c : Option Semaphore) (o : Object) → semaphore_pair a b c ≡ Some o
    → (x y z : Semaphore) × (a ≡ Some x) × (b ≡ Some y) × (c ≡ Some z) × (o ≡ SemaphorePair x y z)
three_parts None b c o is = cc
three_parts (Some x) None c o is = cc
three_parts (Some x) (Some y) None o is = cc
three_parts (Some x) (Some y) (Some z) o is = (x, y, z, refl, refl, refl, sym (same_Some (SemaphorePair x y z) o is))

second_word : (h : HeadingModel) (ws : List (List ℕ)) (z : Semaphore) → option_and_then (semaphore_in h) (only_in ws) ≡ Some z
    → (other : List ℕ) × (ws ≡ other ∷ []) × (semaphore_in h other ≡ Some z)
second_word h [] z is = cc
second_word h (v ∷ []) z is = (v, refl, is)
second_word h (v ∷ w ∷ ws) z is = cc

-- the common one is none of the named ones
common_differs : (h : HeadingModel) (common s : Semaphore) (w : List ℕ) → IsHeading h → both_of h.groups ≡ Some common → semaphore_in h w ≡ Some s → is_same common s ≡ false
common_differs h common s w is both named =
    rw (common_counts h common s is both (found_semaphore h w s named)) refl

-- two named ones are one if their names are
same_names : (h : HeadingModel) (w v : List ℕ) (s u : Semaphore) → IsHeading h → semaphore_in h w ≡ Some s → semaphore_in h v ≡ Some u → is_same s u ≡ bytes_eq w v
same_names h w v s u is p q =
    elim (bytes_eq w v) as (λ b. bytes_eq w v ≡ b → is_same s u ≡ b) [
      | true ↦ λ e.
          (let same : s ≡ u = same_Some s u (sym p ∙ ap (semaphore_in h) (same_word w v e) ∙ q) in
          subst (λ x. is_same s x ≡ true) same (same_itself s))
      | false ↦ λ e.
          (let off : (s.count == u.count) ≡ false =
          ne_eqb s.count u.count (λ c. true≢false (sym (subst (λ x. bytes_eq w x ≡ true) (one_name h w v s u is p q c) (is_itself w)) ∙ e)) in
          rw off refl)
    ] refl

not_not : (b : Bool) → not (not b) ≡ b
not_not true = refl
not_not false = refl

roles_are : (c s u : Semaphore) (b : Bool) → c.initial ≡ 1 → is_same c s ≡ false → is_same c u ≡ false → is_same s u ≡ b → has_two_roles (SemaphorePair c s u) ≡ b
roles_are c s u b first one other pair = rw (eq-eqb c.initial 1 first, one, other, pair) (not_not b)

-- the object of a line, and how its words relate
record IsPair (h : HeadingModel) (one : List ℕ) (ws : List (List ℕ)) (o : Object) : Type 0 where
  common : Semaphore
  first : Semaphore
  second : Semaphore
  other : List ℕ
  words : ws ≡ other ∷ []
  is : o ≡ SemaphorePair common first second
  roles : has_two_roles (SemaphorePair common first second) ≡ bytes_eq one other

pair_found : (h : HeadingModel) (one : List ℕ) (ws : List (List ℕ)) (o : Object) → IsHeading h → object_for h verbs.DownBoth one ws ≡ Some o → IsPair h one ws o
pair_found h one ws o is found =
    let p = three_parts (both_of h.groups) (semaphore_in h one) (option_and_then (semaphore_in h) (only_in ws)) o found in
    let s = second_word h ws p.2 p.5 in
    record {
      common = p.0;
      first = p.1;
      second = p.2;
      other = s.0;
      words = s.1;
      is = p.6;
      roles = roles_are p.0 p.1 p.2 (bytes_eq one s.0) (common_starts h p.0 is p.3) (common_differs h p.0 p.1 one is p.3 p.4) (common_differs h p.0 p.2 s.0 is p.3 s.2)
          (same_names h one s.0 p.1 p.2 is p.4 s.2);
    }

pub two_roles : TwoRolesAreOneName
two_roles h one ws o is found =
    let p = pair_found h one ws o is found in
    (p.other, p.words, ap has_two_roles p.is ∙ p.roles)

-- NO OTHER LINES

plain : {X : Type 0} (f : X → Object) (m : Option X) → ((x : X) → has_two_roles (f x) ≡ false) → has_two_roles (or_nothing (option_map f m)) ≡ true → ⊥
plain f None off on = cc
plain f (Some x) off on = true≢false (sym on ∙ off x)

plain_hand : (x y : Option ℕ) → has_two_roles (or_nothing (transfer_object x y)) ≡ true → ⊥
plain_hand (Some e) (Some b) on = cc
plain_hand _ _ on = cc

pub pair_verb : (h : HeadingModel) (v : LineWord) (w : List ℕ) (ws : List (List ℕ)) → has_two_roles (or_nothing (object_for h v w ws)) ≡ true → v ≡ verbs.DownBoth
pair_verb h verbs.Advance w ws on = absurd (plain Event (event_in h.words w) (λ x. refl) on)
pair_verb h verbs.Read w ws on = absurd (plain Event (event_in h.words w) (λ x. refl) on)
pair_verb h verbs.Await w ws on = absurd (plain Event (event_in h.words w) (λ x. refl) on)
pair_verb h verbs.Ticket w ws on = absurd (plain Sequencer (sequencer_in h.words w) (λ x. refl) on)
pair_verb h verbs.Put w ws on = absurd (plain Cell (cell_in_word h.words w) (λ x. refl) on)
pair_verb h verbs.Get w ws on = absurd (plain Cell (cell_in_word h.words w) (λ x. refl) on)
pair_verb h verbs.Hand w ws on = absurd (plain_hand (event_in h.words w) (option_and_then (worker_in h.words) (only_in ws)) on)
pair_verb h verbs.Produce w ws on = absurd (plain OfBuffer (buffer_in h w) (λ x. refl) on)
pair_verb h verbs.Consume w ws on = absurd (plain OfBuffer (buffer_in h w) (λ x. refl) on)
pair_verb h verbs.Write w ws on = absurd (plain OfDatabase (database_in h w) (λ x. refl) on)
pair_verb h verbs.Snapshot w ws on = absurd (plain OfDatabase (database_in h w) (λ x. refl) on)
pair_verb h verbs.Down w ws on = absurd (plain OfSemaphore (semaphore_in h w) (λ x. refl) on)
pair_verb h verbs.Up w ws on = absurd (plain OfSemaphore (semaphore_in h w) (λ x. refl) on)
pair_verb h verbs.DownBoth w ws on = refl
pair_verb h verbs.Worker w ws on = absurd (plain Worker (worker_in h.words w) (λ x. refl) on)
pair_verb h verbs.Repeat w ws on = cc
pair_verb h verbs.End w ws on = cc
pair_verb h verbs.Schedule w ws on = cc

-- THE ORDER OF THE TESTS

abbrev least_of : Bool → Bool → Bool → Bool → Bool → Bool → Bool → Bool → Bool → Option Kind
least_of line taken unknown number many hidden roles right nesting = first_that (
    (line, kinds.BadLine)
    ∷ (taken, kinds.NameTaken)
    ∷ (unknown, kinds.UnknownName)
    ∷ (number, kinds.BadNumber)
    ∷ (many, kinds.TooMany)
    ∷ (hidden, kinds.Hidden)
    ∷ (roles, kinds.TwoRoles)
    ∷ (right, kinds.NoRight)
    ∷ (nesting, kinds.BadNesting)
    ∷ [])

record AreTold (line unknown many roles : Bool) : Type 0 where
  inside : line ≡ false
  known : unknown ≡ false
  room : many ≡ false
  two : roles ≡ true

returned : (line taken unknown number many hidden roles right nesting : Bool) → least_of line taken unknown number many hidden roles right nesting ≡ Some kinds.TwoRoles → AreTold line unknown many roles
returned true b c d e f g h i is = cc
returned false true c d e f g h i is = cc
returned false false true d e f g h i is = cc
returned false false false true e f g h i is = cc
returned false false false false true f g h i is = cc
returned false false false false false true g h i is = cc
returned false false false false false false true h i is = record { inside = refl; known = refl; room = refl; two = refl }
returned false false false false false false false true i is = cc
returned false false false false false false false false true is = cc
returned false false false false false false false false false is = cc

tells : (line taken unknown number many hidden roles right nesting : Bool) → line ≡ false → taken ≡ false → unknown ≡ false → number ≡ false → many ≡ false → hidden ≡ false → roles ≡ true
    → least_of line taken unknown number many hidden roles right nesting ≡ Some kinds.TwoRoles
tells line taken unknown number many hidden roles right nesting a b c d e f g = rw (a, b, c, d, e, f, g) refl

-- OF A LINE

some_object : (o : Option Object) (more : Bool) → (is_none o || more) ≡ false → (x : Object) × (o ≡ Some x)
some_object None more known = cc
some_object (Some x) more known = (x, refl)

in_block : (n : Option BlockContext) → not (is_some n) ≡ false → is_some n ≡ true
in_block None off = cc
in_block (Some n) off = refl

pub names_one : (s : LineContextModel) (p : Phrase) → IsHeading s.heading → phrase_fault s p (object_in s.heading p) ≡ Some kinds.TwoRoles → NamesOneTwice s p
names_one s p is fault =
    let t = returned _ _ _ _ _ _ _ _ _ fault in
    let verb : p.verb ≡ verbs.DownBoth = pair_verb s.heading p.verb p.object p.rest t.two in
    let x = some_object (object_in s.heading p) _ t.known in
    let pair = two_roles s.heading p.object p.rest x.0 is (subst (λ v. object_for s.heading v p.object p.rest ≡ Some x.0) verb x.1) in
    let same : bytes_eq p.object pair.0 ≡ true = sym pair.2 ∙ ap (λ (o : Option Object). has_two_roles (or_nothing o)) (sym x.1) ∙ t.two in
    record {
      verb = verb;
      twice = pair.1 ∙ ap (λ (w : List ℕ). w ∷ []) (sym (same_word p.object pair.0 same));
      declared = ap is_some x.1;
      inside = in_block s.block (subst (λ v. not (has_verb s.heading.version v && is_allowed v (is_some s.block) s.scheduled) ≡ false) verb t.inside);
      room = t.room;
    }

none_owned : (gs : List Group) (c s u : Semaphore) → is_owned gs (SemaphorePair c s u) ≡ false
none_owned [] c s u = refl
none_owned (g ∷ gs) c s u = none_owned gs c s u

there_is : (o : Option Object) → is_some o ≡ true → (is_none o || false) ≡ false
there_is None is = cc
there_is (Some x) is = refl

pub first_again : (w v : List ℕ) → w ∷ [] ≡ v ∷ [] → bytes_eq w v ≡ true
first_again w v is = (let same : w ≡ v = cc in subst (λ x. bytes_eq w x ≡ true) same (is_itself w))

two_told : (s : LineContextModel) (w : List ℕ) → IsHeading s.heading → is_some (object_for s.heading verbs.DownBoth w (w ∷ [])) ≡ true → is_some s.block ≡ true
    → is_too_many verbs.DownBoth (w ∷ []) s.block s.scheduled ≡ false
    → phrase_fault s (record { verb = verbs.DownBoth; object = w; rest = w ∷ [] }) (object_for s.heading verbs.DownBoth w (w ∷ [])) ≡ Some kinds.TwoRoles
two_told s w is declared inside room =
    let x = some_object (object_for s.heading verbs.DownBoth w (w ∷ [])) false (there_is (object_for s.heading verbs.DownBoth w (w ∷ [])) declared) in
    let pair = pair_found s.heading w (w ∷ []) x.0 is x.1 in
    let found : object_for s.heading verbs.DownBoth w (w ∷ []) ≡ Some (SemaphorePair pair.common pair.first pair.second) = x.1 ∙ ap Some pair.is in
    tells _ _ _ _ _ _ _ _ _ (ap not inside)
    (ap (λ (o : Option Object). is_named_again s.named (or_nothing o)) found)
    (ap (λ (o : Option Object). is_none o || false) found)
    refl
    room
    (ap (λ (o : Option Object). is_owned s.heading.groups (or_nothing o)) found ∙ none_owned s.heading.groups pair.common pair.first pair.second)
    (ap (λ (o : Option Object). has_two_roles (or_nothing o)) found ∙ pair.roles ∙ first_again w pair.other pair.words)

pub is_told : (s : LineContextModel) (p : Phrase) → IsHeading s.heading → NamesOneTwice s p → phrase_fault s p (object_in s.heading p) ≡ Some kinds.TwoRoles
is_told s p is names =
    let P : LineWord → List (List ℕ) → Type 0 = λ v ws.
    IsHeading s.heading → is_some (object_for s.heading v p.object ws) ≡ true → is_some s.block ≡ true → is_too_many v ws s.block s.scheduled ≡ false
    → phrase_fault s (record { verb = v; object = p.object; rest = ws }) (object_for s.heading v p.object ws) ≡ Some kinds.TwoRoles in
    subst (λ v. P v p.rest) (sym names.verb) (subst (P verbs.DownBoth) (sym names.twice) (two_told s p.object)) is names.declared names.inside names.room

pub roles_told : TwoRolesAreReported
roles_told s p is = (names_one s p is, is_told s p is)
