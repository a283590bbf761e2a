-- Names are words: they have no space and no bracket, are short, and are none of the words of a text.
use Rattle.std.proofs.Common.{◌≡◌, ◌≢◌, ℕ, ◌≤◌, List, [], ◌∷◌, length, true, false, not, eqb, ◌&&◌, sym, ap, ◌∙◌, arith, bytes_eq, nat_le, ne_eqb, refl, Some, None}
use Rattle.std.specs.List.{list_all, AllByRecursion}
use Rattle.std.specs.Char.{is_ascii_alphabetic}
use Rattle.std.proofs.lemmas.Bool.{true≢false, and_parts, not-true, false_from_ne_true, leb-true}
use Rattle.std.proofs.lemmas.List.Elements.{All-from_recursion}
use Rattle.std.specs.Prelude.{MatchOption, Result, Ok, Err}
use Rattle.ec_count.specs.Names.{name_fault}
use Rattle.ec_count.specs.Reserved.{is_name, is_name_byte, is_reserved}
use Rattle.ec_count.specs.declared.names.NameFault.{NameFault}
use Rattle.ec_count.specs.declared.target.Target.{Target}
use Rattle.ec_count.proofs.shared.Named.{no_fault}
use Rattle.ec_text.specs.Words.{IsWord}
use Rattle.ec_heading.proofs.shared.Phrases.{same_word}

-- no space, and no bracket
pub record IsPlain (b : ℕ) : Type 0 where
  pub space : b ≢ 32
  pub open_bracket : b ≢ 91
  pub close_bracket : b ≢ 93

letter_plain : (b : ℕ) → is_ascii_alphabetic b ≡ true → IsPlain b
letter_plain b h = record {
  space = λ e. true≢false (sym h ∙ ap is_ascii_alphabetic e);
  open_bracket = λ e. true≢false (sym h ∙ ap is_ascii_alphabetic e);
  close_bracket = λ e. true≢false (sym h ∙ ap is_ascii_alphabetic e);
}

byte_plain : (b : ℕ) → is_name_byte b ≡ true → IsPlain b
byte_plain b h = record {
  space = λ e. true≢false (sym h ∙ ap is_name_byte e);
  open_bracket = λ e. true≢false (sym h ∙ ap is_name_byte e);
  close_bracket = λ e. true≢false (sym h ∙ ap is_name_byte e);
}

rest_plain : (bs : List ℕ) → list_all is_name_byte bs ≡ true → AllByRecursion IsPlain bs
rest_plain [] h = tt
rest_plain (b ∷ bs) h = let p = and_parts (is_name_byte b) (list_all is_name_byte bs) h in (byte_plain b p.0, rest_plain bs p.1)

-- what is known of a name
pub record IsNamed (w : List ℕ) : Type 0 where
  pub some : 1 ≤ length w
  pub short : length w ≤ 16
  pub plain : AllByRecursion IsPlain w
  pub free : is_reserved w ≡ false

pub named : (w : List ℕ) → is_name w ≡ true → IsNamed w
unfolding is_name
named [] h = absurd (true≢false (sym h))
named (b ∷ bs) h =
    let p = and_parts (is_ascii_alphabetic b && nat_le (length bs) 15 && list_all is_name_byte bs) (not (is_reserved (b ∷ bs))) h in
    let q = and_parts (is_ascii_alphabetic b && nat_le (length bs) 15) (list_all is_name_byte bs) p.0 in
    let r = and_parts (is_ascii_alphabetic b) (nat_le (length bs) 15) q.0 in
    let few : length bs ≤ 15 = leb-true (length bs) 15 r.1 in
    record {
      some = omega arith;
      short = omega arith;
      plain = (letter_plain b r.0, rest_plain bs q.1);
      free = not-true _ p.1;
    }

plain_word : (w : List ℕ) → AllByRecursion IsPlain w → AllByRecursion (λ b. eqb b 32 ≡ false) w
plain_word [] h = tt
plain_word (b ∷ w) h = (ne_eqb b 32 h.0.space, plain_word w h.1)

-- no space is in a name
pub name_is_word : (w : List ℕ) → is_name w ≡ true → IsWord w
name_is_word w h = All-from_recursion (λ b. eqb b 32 ≡ false) w (plain_word w (named w h).plain)

-- a name has at least one byte
pub name_not_empty : (w : List ℕ) → is_name w ≡ true → eqb (length w) 0 ≡ false
name_not_empty w h = (let n : IsNamed w = named w h in ne_eqb _ _ (λ e. (omega (arith, n.some))))

-- a name is none of the words of a text
pub name_apart : (w stop : List ℕ) → is_name w ≡ true → is_reserved stop ≡ true → bytes_eq w stop ≡ false
name_apart w stop h taken = false_from_ne_true _ (λ e. true≢false (sym taken ∙ ap is_reserved (sym (same_word w stop e)) ∙ (named w h).free))

-- a name that was added is short
pub added_short : (name : List ℕ) (names : List (List ℕ × Target)) (x : Unit {0}) → MatchOption (name_fault name names) (Unit {0}) (λ f. ◌≡◌ {A = Result (Unit {0}) NameFault} (Ok x) (Err f)) → length name ≤ 24
added_short name names x h =
    elim (name_fault name names) as (λ o. name_fault name names ≡ o → MatchOption o (Unit {0}) (λ f. ◌≡◌ {A = Result (Unit {0}) NameFault} (Ok x) (Err f)) → length name ≤ 24) [
      | None ↦ λ q g. (let n : IsNamed name = named name (no_fault name names q).0 in omega (arith, n.short))
      | Some f ↦ λ q g. (cc)
    ] refl h
