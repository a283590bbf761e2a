-- Producing and consuming suit the rules of a buffer.
use Rattle.std.proofs.Common.{◌≡◌, ℕ, ◌+◌, ◌%◌, ◌<◌, true, false, ◌||◌, ◌==◌, nat_le, nat_lt, List, [], ◌∷◌, Option, if◌then◌else◌, refl, sym, ◌∙◌, ap, subst, arith, inl, inr}
use Rattle.std.specs.Option.{option_map_or}
use Rattle.std.proofs.lemmas.Bool.{eq-eqb, and_from, le-leb, lt-ltb}
use Rattle.std.proofs.lemmas.Nat.{mod_below}
use Rattle.ec_count.specs.Members.{is_member}
use Rattle.ec_count.specs.Declares.{DeclaresSequencer}
use Rattle.ec_count.specs.Tables.{Tables, may_take}
use Rattle.ec_core.specs.declared.act.Act.{Act}
use Rattle.ec_core.specs.declared.act.Act.TheVariants.{Ticket}
use Rattle.ec_buffer.specs.Shapes.{Buffer, DeclaresBuffer, Fits}
use Rattle.ec_buffer.specs.CallLists.{drawn_ticket, produce_call, consume_call}
use Rattle.ec_buffer.specs.Follows.{is_cell, is_on, produce_rule, consume_rule, buffer_rules}
use Rattle.ec_machine.specs.declared.command.Command.{Command, Produce, Consume}
use Rattle.ec_machine.specs.Values.{eval}
use Rattle.ec_machine.specs.Runs.{command_call}
use Rattle.ec_script_theorems.specs.Uses.{IsOfBuffer, UsesBuffer}
use Rattle.ec_script_theorems.specs.Laws.{BuffersAreFollowed}
use Rattle.ec_script_theorems.proofs.Suiting.{Suits, suits_apart, blocked, at_op}
use Rattle.ec_script_theorems.proofs.Granted.{IsGranted}
use Rattle.ec_script_theorems.proofs.Rules.{IsFree, IsOn, suits_free}
use Rattle.ec_script_theorems.proofs.Roles.{one_role}
use Rattle.ec_script_theorems.proofs.Tests.{or_first}
use Rattle.ec_semaphore.proofs.shared.Implying.{fits_or as or_second}
use Rattle.ec_script_theorems.proofs.Workers.{programs_follow}

-- THE OBJECTS OF A BUFFER

on_in : (b : Buffer) → (b.in_count == b.in_count || b.in_count == b.out_count) ≡ true
on_in b = or_first (b.in_count == b.in_count) (b.in_count == b.out_count) (eq-eqb b.in_count b.in_count refl)

on_out : (b : Buffer) → (b.out_count == b.in_count || b.out_count == b.out_count) ≡ true
on_out b = or_second (b.out_count == b.in_count) (b.out_count == b.out_count) (eq-eqb b.out_count b.out_count refl)

on_put : (b : Buffer) → (b.put_seq == b.put_seq || b.put_seq == b.take_seq) ≡ true
on_put b = or_first (b.put_seq == b.put_seq) (b.put_seq == b.take_seq) (eq-eqb b.put_seq b.put_seq refl)

on_take : (b : Buffer) → (b.take_seq == b.put_seq || b.take_seq == b.take_seq) ≡ true
on_take b = or_second (b.take_seq == b.put_seq) (b.take_seq == b.take_seq) (eq-eqb b.take_seq b.take_seq refl)

on_cell : (b : Buffer) (n : ℕ) → 0 < b.cells → is_cell b (b.first_cell + n % b.cells) ≡ true
on_cell b n some =
    let low : n % b.cells < b.cells = mod_below n b.cells some in
    and_from (nat_le b.first_cell (b.first_cell + n % b.cells)) (nat_lt (b.first_cell + n % b.cells) (b.first_cell + b.cells))
    (le-leb b.first_cell (b.first_cell + n % b.cells) (omega arith))
    (lt-ltb (b.first_cell + n % b.cells) (b.first_cell + b.cells) (omega arith))

-- THE LISTS

produce_free : (b : Buffer) (item : ℕ) → IsFree (produce_call b 0) (produce_call b item)
produce_free b item [] = refl
produce_free b item (t ∷ []) = refl
produce_free b item (t ∷ i ∷ []) = refl
produce_free b item (t ∷ i ∷ o ∷ []) = refl
produce_free b item (t ∷ i ∷ o ∷ p ∷ []) = refl
produce_free b item (t ∷ i ∷ o ∷ p ∷ a ∷ rest) = refl

pub produce_on : (b : Buffer) (item : ℕ) → 0 < b.cells → IsOn (is_on b) (produce_call b item)
produce_on b item some [] op is = at_op (λ x. is_on b x ≡ true) (Ticket b.put_seq) op is (on_put b)
produce_on b item some (t ∷ []) op is = at_op (λ x. is_on b x ≡ true) _ op is (on_in b)
produce_on b item some (t ∷ i ∷ []) op is = at_op (λ x. is_on b x ≡ true) _ op is (on_out b)
produce_on b item some (t ∷ i ∷ o ∷ []) op is = at_op (λ x. is_on b x ≡ true) _ op is (on_cell b (drawn_ticket (t ∷ i ∷ o ∷ [])) some)
produce_on b item some (t ∷ i ∷ o ∷ p ∷ []) op is = at_op (λ x. is_on b x ≡ true) _ op is (on_in b)
produce_on b item some (t ∷ i ∷ o ∷ p ∷ a ∷ rest) op is = cc

consume_free : (b : Buffer) → IsFree (consume_call b) (consume_call b)
consume_free b [] = refl
consume_free b (t ∷ []) = refl
consume_free b (t ∷ i ∷ []) = refl
consume_free b (t ∷ i ∷ o ∷ []) = refl
consume_free b (t ∷ i ∷ o ∷ g ∷ []) = refl
consume_free b (t ∷ i ∷ o ∷ g ∷ a ∷ rest) = refl

pub consume_on : (b : Buffer) → 0 < b.cells → IsOn (is_on b) (consume_call b)
consume_on b some [] op is = at_op (λ x. is_on b x ≡ true) (Ticket b.take_seq) op is (on_take b)
consume_on b some (t ∷ []) op is = at_op (λ x. is_on b x ≡ true) _ op is (on_out b)
consume_on b some (t ∷ o ∷ []) op is = at_op (λ x. is_on b x ≡ true) _ op is (on_in b)
consume_on b some (t ∷ o ∷ i ∷ []) op is = at_op (λ x. is_on b x ≡ true) _ op is (on_cell b (drawn_ticket (t ∷ o ∷ i ∷ [])) some)
consume_on b some (t ∷ o ∷ i ∷ g ∷ []) op is = at_op (λ x. is_on b x ≡ true) _ op is (on_out b)
consume_on b some (t ∷ o ∷ i ∷ g ∷ a ∷ rest) op is = cc

-- ROLES

-- who takes from a sequencer with these takers is one of them
taker : (t : Tables) (q w : ℕ) (take : List ℕ) → DeclaresSequencer t q take → may_take t q w ≡ is_member w take
taker t q w take there = ap (λ (o : Option (List ℕ)). option_map_or (is_member w) o false) there

two_roles : (t : Tables) (b : Buffer) (w : ℕ) (produce consume : List ℕ) → DeclaresBuffer b t produce consume → may_take t b.put_seq w ≡ true → may_take t b.take_seq w ≡ true → ⊥
two_roles t b w produce consume declares puts takes =
    one_role w produce consume declares.apart (sym (taker t b.put_seq w produce declares.put_seq) ∙ puts) (sym (taker t b.take_seq w consume declares.take_seq) ∙ takes)

produce_suits : (t : Tables) (b : Buffer) (w item : ℕ) → 0 < b.cells → Suits (IsGranted t w) (buffer_rules t b w) (produce_call b item)
produce_suits t b w item some =
    elim (may_take t b.put_seq w) as (λ p. may_take t b.put_seq w ≡ p → Suits (IsGranted t w) (if p then produce_rule b else consume_rule b) (produce_call b item)) [
      | true ↦ λ puts. suits_free (IsGranted t w) (is_on b) (produce_call b 0) (produce_call b item) (produce_free b item) (produce_on b item some)
      | false ↦ λ no. blocked (IsGranted t w) (consume_rule b) (produce_call b item)
          (λ op is granted.
          (let puts : may_take t b.put_seq w ≡ true = (let same : op ≡ Ticket b.put_seq = cc in subst (IsGranted t w) same granted) in
          let clash : false ≡ true = sym no ∙ puts in
          cc))
    ] refl

consume_suits : (t : Tables) (b : Buffer) (w : ℕ) → 0 < b.cells → Fits b t → Suits (IsGranted t w) (buffer_rules t b w) (consume_call b)
consume_suits t b w some fits =
    elim (may_take t b.put_seq w) as (λ p. may_take t b.put_seq w ≡ p → Suits (IsGranted t w) (if p then produce_rule b else consume_rule b) (consume_call b)) [
      | true ↦ λ puts. blocked (IsGranted t w) (produce_rule b) (consume_call b)
          (λ op is granted. two_roles t b w fits.0 fits.1 fits.2 puts (let same : op ≡ Ticket b.take_seq = cc in subst (IsGranted t w) same granted))
      | false ↦ λ no. suits_free (IsGranted t w) (is_on b) (consume_call b) (consume_call b) (consume_free b) (consume_on b some)
    ] refl

-- EACH COMMAND

own_suits : (t : Tables) (b : Buffer) (w last : ℕ) (c : Command) → 0 < b.cells → Fits b t → IsOfBuffer b c → Suits (IsGranted t w) (buffer_rules t b w) (command_call last c)
own_suits t b w last (Produce e v) some fits is = subst (λ u. Suits (IsGranted t w) (buffer_rules t b w) (produce_call u (eval last v))) (sym is) (produce_suits t b w (eval last v) some)
own_suits t b w last (Consume e) some fits is = subst (λ u. Suits (IsGranted t w) (buffer_rules t b w) (consume_call u)) (sym is) (consume_suits t b w some fits)
own_suits t b w last c some fits is = absurd is

concerns_on : (t : Tables) (b : Buffer) (w : ℕ) (op : Act) → (buffer_rules t b w).concerns [] op ≡ is_on b op
concerns_on t b w op =
    elim (may_take t b.put_seq w) as (λ p. (if p then produce_rule b else consume_rule b).concerns [] op ≡ is_on b op) [
      | true ↦ refl
      | false ↦ refl
    ]

command_suits : (t : Tables) (b : Buffer) (w last : ℕ) (c : Command) → 0 < b.cells → Fits b t → UsesBuffer b c → Suits (IsGranted t w) (buffer_rules t b w) (command_call last c)
command_suits t b w last c some fits (inl own) = own_suits t b w last c some fits own
command_suits t b w last c some fits (inr apart) =
    suits_apart (IsGranted t w) (buffer_rules t b w) (command_call last c) (λ calls op is. concerns_on t b w op ∙ apart last calls op is)

pub buffers_follow : BuffersAreFollowed
buffers_follow t b programs h shape fits acc each runs =
    programs_follow t (buffer_rules t b) (UsesBuffer b) programs h acc (λ w last c is. command_suits t b w last c shape.some fits is) each runs
