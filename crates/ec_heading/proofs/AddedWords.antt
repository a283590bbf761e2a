-- The words for the objects of a declaration, added one after another.
use Rattle.std.proofs.Common.{◌≡◌, ℕ, ◌+◌, ◌<◌, List, [], ◌∷◌, ◌++◌, length, take, drop, map, get_or, sym, ap, subst, ◌∙◌, append_assoc}
use Rattle.std.proofs.lemmas.List.{drop_more, take_more, take-map, drop-map, map-append}
use Rattle.ec_count.specs.declared.target.Target.{Target}
use Rattle.ec_heading.specs.Objects.{AreNew, shown_objects, spelled_objects, spelling}
use Rattle.ec_heading.specs.EntryWords.{NameTable}
use Rattle.ec_heading.specs.declared.objects.Object.{Object}

abbrev shown_object : Object → List ℕ × Target
shown_object o = (o.word.now, o.target)

-- the next object comes first of those that are left
left_with : (objects : List Object) (i : ℕ) (o : Object) → i < length objects → o ≡ get_or objects i o → drop i (shown_objects objects) ≡ shown_object o ∷ drop (i + 1) (shown_objects objects)
left_with objects i o lt at =
    drop-map shown_object i objects
    ∙ ap (map shown_object) (drop_more objects i o lt ∙ ap (λ (p : Object). p ∷ drop (i + 1) objects) (sym at))
    ∙ ap (λ (os : NameTable). shown_object o ∷ os) (sym (drop-map shown_object (i + 1) objects))

pub next_new : (name : List ℕ) (words : NameTable) (objects : List Object) (i : ℕ) (o : Object) → i < length objects → o ≡ get_or objects i o
    → AreNew name words (drop i (shown_objects objects)) → AreNew name words (shown_object o ∷ drop (i + 1) (shown_objects objects))
next_new name words objects i o lt at new = subst (AreNew name words) (left_with objects i o lt at) new

-- the words once the next one is added
pub next_added : (name : List ℕ) (before words : NameTable) (objects : List Object) (i : ℕ) (o : Object) → i < length objects → o ≡ get_or objects i o
    → words ≡ before ++ spelled_objects name (take i (shown_objects objects))
    → words ++ (spelling name o.word.now, o.target) ∷ [] ≡ before ++ spelled_objects name (take (i + 1) (shown_objects objects))
next_added name before words objects i o lt at is =
    let f : List ℕ × Target → List ℕ × Target = λ (p : List ℕ × Target). (spelling name p.0, p.1) in
    let more : take (i + 1) (shown_objects objects) ≡ take i (shown_objects objects) ++ shown_object o ∷ [] =
    take-map shown_object (i + 1) objects
    ∙ ap (map shown_object) (take_more objects i o lt ∙ ap (λ (p : Object). take i objects ++ p ∷ []) (sym at))
    ∙ map-append shown_object (take i objects) (o ∷ [])
    ∙ ap (λ (os : NameTable). os ++ shown_object o ∷ []) (sym (take-map shown_object i objects)) in
    ap (λ (ws : NameTable). ws ++ (spelling name o.word.now, o.target) ∷ []) is
    ∙ append_assoc before (spelled_objects name (take i (shown_objects objects))) ((spelling name o.word.now, o.target) ∷ [])
    ∙ ap (λ (ws : NameTable). before ++ ws) (sym (map-append f (take i (shown_objects objects)) (shown_object o ∷ [])) ∙ ap (spelled_objects name) (sym more))
