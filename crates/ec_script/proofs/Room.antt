-- A line without fault may come next in its block.
use Rattle.std.proofs.Common.{◌≡◌, ℕ, ◌<◌, ◌&&◌, ◌||◌, Bool, true, false, not, List, length, Option, Some, None, option_map, is_some, is_none, nat_le, nat_lt, arith, refl, sym, ap, ◌∙◌, lt-ltb, [], ◌∷◌}
use Rattle.std.specs.Option.{option_and_then}
use Rattle.std.proofs.lemmas.Bool.{leb-false, and_parts, and_from, or_parts, or_from, not-false, not_from_true}
use Rattle.std.specs.List.{AllByRecursion}
use Rattle.ec_count.specs.Tables.{first_that}
use Rattle.ec_text.specs.Words.{number_in_word}
use Rattle.ec_heading.proofs.shared.Declarable.{passed, pass}
use Rattle.ec_script.specs.declared.fault.Kind.{Kind}
use Rattle.ec_script.specs.declared.fault.Kind.TheVariants as kinds
use Rattle.ec_script.specs.declared.object.Object.{Object}
use Rattle.ec_script.specs.declared.script.OpenBlock.{OpenBlock}
use Rattle.ec_script.specs.declared.block_item.BlockItem.{BlockItem}
use Rattle.ec_script.specs.declared.block_item.BlockItem.TheVariants.{Do, Write, Begin, End}
use Rattle.ec_script.specs.declared.verb.LineWord.{LineWord}
use Rattle.ec_script.specs.declared.verb.LineWord.TheVariants as verbs
use Rattle.ec_script.specs.Verbs.{has_verb, is_counted, tail_of}
use Rattle.ec_script.specs.Forms.{Phrase, only_in}
use Rattle.ec_script.specs.Objects.{is_owned}
use Rattle.ec_script.specs.Kinds.{LineContextModel, phrase_tests, phrase_fault, or_nothing, is_allowed, is_named_again, has_unknown_name, is_bad_tail, is_too_many, has_two_roles, lacks_right, is_badly_nested}
use Rattle.ec_script.specs.BlockItems.{IsSound, size_in}
use Rattle.ec_script.specs.ScriptModel.{ScriptModel, MayTakeItem, MayEnd, HasRoom}
use Rattle.ec_script.specs.Reading.{view_of_block, context_of_script}
use Rattle.ec_script.proofs.Sizes.{count_range}
use Rattle.ec_script.proofs.PhraseWords.{made}

pub may_command : (b : Option OpenBlock) (o : BlockItem) → HasRoom b → IsSound o → MayTakeItem b o
may_command None o room sound = tt
may_command (Some b) (Do c) room sound = (sound.0, sound.1, room)
may_command (Some b) (Write d vs) room sound = (sound.0, sound.1, room)
may_command (Some b) (Begin n) room sound = absurd sound
may_command (Some b) End room sound = absurd sound

-- IF NO TEST HOLDS

none_first : (tests : List (Bool × Kind)) → first_that tests ≡ None → AllByRecursion (λ (t : Bool × Kind). t.0 ≡ false) tests
none_first [] is = tt
none_first ((b, k) ∷ tests) is = let p = passed b k tests is in (p.0, none_first tests p.1)

first_none : (tests : List (Bool × Kind)) → AllByRecursion (λ (t : Bool × Kind). t.0 ≡ false) tests → first_that tests ≡ None
first_none [] off = refl
first_none ((b, k) ∷ tests) off = pass b k tests off.0 (first_none tests off.1)

-- no test holds of the line
pub record Passes (s : LineContextModel) (p : Phrase) (o : Option Object) : Type 0 where
  pub version : has_verb s.heading.version p.verb ≡ true
  pub allowed : is_allowed p.verb (is_some s.block) s.scheduled ≡ true
  pub new : is_named_again s.named (or_nothing o) ≡ false
  pub found : is_none o ≡ false
  pub known : has_unknown_name s.heading p.verb p.rest ≡ false
  pub range : is_bad_tail (tail_of p.verb) p.verb p.rest (or_nothing o) ≡ false
  pub few : is_too_many p.verb p.rest s.block s.scheduled ≡ false
  pub apart : is_owned s.heading.groups (or_nothing o) ≡ false
  pub differ : has_two_roles (or_nothing o) ≡ false
  pub right : lacks_right s.heading s.block p.verb (or_nothing o) ≡ false
  pub nested : is_badly_nested p.verb s.block ≡ false

pub passes : (s : LineContextModel) (p : Phrase) (o : Option Object) → phrase_fault s p o ≡ None → Passes s p o
passes s p o is =
    let first = passed (not (has_verb s.heading.version p.verb && is_allowed p.verb (is_some s.block) s.scheduled)) kinds.BadLine (phrase_tests s p o) is in
    let n = none_first (phrase_tests s p o) first.1 in
    let place = and_parts (has_verb s.heading.version p.verb) (is_allowed p.verb (is_some s.block) s.scheduled) (not-false _ first.0) in
    let u = or_parts (is_none o) (has_unknown_name s.heading p.verb p.rest) n.1.0 in
    record { version = place.0; allowed = place.1; new = n.0; found = u.0; known = u.1; range = n.1.1.0; few = n.1.1.1.0; apart = n.1.1.1.1.0; differ = n.1.1.1.1.1.0; right = n.1.1.1.1.1.1.0; nested = n.1.1.1.1.1.1.1.0 }

-- if none holds there is no fault
pub no_fault_of : (s : LineContextModel) (p : Phrase) (o : Option Object) → Passes s p o → phrase_fault s p o ≡ None
no_fault_of s p o h =
    pass (not (has_verb s.heading.version p.verb && is_allowed p.verb (is_some s.block) s.scheduled)) kinds.BadLine (phrase_tests s p o) (not_from_true _ (and_from _ _ h.version h.allowed))
    (first_none (phrase_tests s p o) (h.new, (or_from _ _ h.found h.known, (h.range, (h.few, (h.apart, (h.differ, (h.right, (h.nested, tt)))))))))

-- A BLOCK

pub room_for : (v : LineWord) (ws : List (List ℕ)) (b : Option OpenBlock) (n : ℕ) → is_counted v ≡ true → is_too_many v ws (option_map view_of_block b) n ≡ false → HasRoom b
room_for v ws None n counted h = tt
room_for verbs.Schedule ws (Some b) n counted h = cc
room_for verbs.Worker ws (Some b) n counted h = cc
room_for verbs.End ws (Some b) n counted h = cc
room_for v ws (Some b) n counted h = leb-false 4096 b.draft.commands h

pub may_repeat : (ws : List (List ℕ)) (b : Option OpenBlock) (n : ℕ) (o : Object)
    → is_bad_tail (tail_of verbs.Repeat) verbs.Repeat ws o ≡ false → is_too_many verbs.Repeat ws (option_map view_of_block b) n ≡ false → is_badly_nested verbs.Repeat (option_map view_of_block b) ≡ false
    → MayTakeItem b (Begin (size_in ws))
may_repeat ws None n o number many nested = tt
may_repeat ws (Some b) n o number many nested =
    let r = count_range 1000000 (option_and_then number_in_word (only_in ws)) (not-false _ number) in
    (omega (arith, r.some), r.few, leb-false 4 b.draft.depth nested, leb-false 4096 b.draft.commands many)

pub end_deep : (d : ℕ) (e : Bool) → (nat_lt 0 d && e) ≡ false → 0 < d → e ≡ false
end_deep d false h deep = refl
end_deep d true h deep = let l : nat_lt 0 d ≡ true = lt-ltb 0 d deep in let g : (nat_lt 0 d && true) ≡ true = rw l refl in cc

pub may_end : (b : Option OpenBlock) → is_badly_nested verbs.End (option_map view_of_block b) ≡ false → MayEnd b
may_end None nested = tt
may_end (Some b) nested = λ deep. end_deep b.draft.depth b.draft.is_empty nested deep

-- BY ITS VERB

-- a repeat without fault
pub repeat_may : (s : ScriptModel) (v : LineWord) (object : List ℕ) (ws : List (List ℕ)) (o : Option Object) → v ≡ verbs.Repeat → phrase_fault (context_of_script s) (made v object ws) o ≡ None → MayTakeItem s.block (Begin (size_in ws))
repeat_may s v object ws o is none =
    let f = passes (context_of_script s) (made verbs.Repeat object ws) o (ap (λ w. phrase_fault (context_of_script s) (made w object ws) o) (sym is) ∙ none) in
    may_repeat ws s.block (length s.schedule) (or_nothing o) f.range f.few f.nested

-- an `end` without fault
pub end_may : (s : ScriptModel) (v : LineWord) (object : List ℕ) (ws : List (List ℕ)) (o : Option Object) → v ≡ verbs.End → phrase_fault (context_of_script s) (made v object ws) o ≡ None → MayEnd s.block
end_may s v object ws o is none =
    let f = passes (context_of_script s) (made verbs.End object ws) o (ap (λ w. phrase_fault (context_of_script s) (made w object ws) o) (sym is) ∙ none) in
    may_end s.block f.nested

counted_else : (v : LineWord) → (v ≡ verbs.Worker → ⊥) → (v ≡ verbs.Schedule → ⊥) → (v ≡ verbs.End → ⊥) → is_counted v ≡ true
counted_else verbs.Worker a b c = absurd (a refl)
counted_else verbs.Schedule a b c = absurd (b refl)
counted_else verbs.End a b c = absurd (c refl)
counted_else v a b c = refl

-- a command without fault
pub command_room : (s : ScriptModel) (v : LineWord) (object : List ℕ) (ws : List (List ℕ)) (o : Option Object) → (v ≡ verbs.Worker → ⊥) → (v ≡ verbs.Schedule → ⊥) → (v ≡ verbs.End → ⊥) → phrase_fault (context_of_script s) (made v object ws) o ≡ None → HasRoom s.block
command_room s v object ws o a b c none =
    room_for v ws s.block (length s.schedule) (counted_else v a b c) (passes (context_of_script s) (made v object ws) o none).few
