use Rattle.std.proofs.Common.{◌≡◌, ℕ, List, [], ◌∷◌, ◌++◌, ◌∙◌, sym, ap, subst, reverse, codes, map, append_assoc, append-nil}
use Rattle.std.specs.List.{flat_map}
use Rattle.ec_text.specs.Puts.{Puts}
use Rattle.ec_text.proofs.shared.PutLemmas.{puts_then}
use Rattle.ec_heading.specs.Spelling.{NameTable, lines_text, ended_line}
use Rattle.ec_order.specs.declared.linearized_entry.LinearizedEntry.{LinearizedEntry}
use Rattle.evc_engine.specs.Texts.{linearized_line, totals_by}
use Rattle.evc_engine.proofs.CheckLemmas.{text_parts}
use Rattle.evc_engine.proofs.text.put_text.Goals as goal

-- A text, lines that each follow an LF, and an LF after them, are the text and these lines, each
-- with an LF at its end.
behind_lf : (line : LinearizedEntry → List ℕ) (a x : List ℕ) (ds : List LinearizedEntry)
    → (a ++ flat_map (λ (d : LinearizedEntry). 10 ∷ line d) ds) ++ 10 ∷ x ≡ (ended_line a ++ lines_text (map line ds)) ++ x
behind_lf line a x [] = simp (append-nil, append_assoc)
behind_lf line a x (d ∷ ds) =
    ap (λ (t : List ℕ). t ++ 10 ∷ x) (sym (append_assoc a (10 ∷ line d) (flat_map (λ (d : LinearizedEntry). 10 ∷ line d) ds)))
    ∙ behind_lf line (a ++ 10 ∷ line d) x ds
    ∙ simp append_assoc

pub returns : goal.returns
returns g c = λ entries represents.
    let line = linearized_line c.args.heading.now.words in
    let totals = lines_text (totals_by (reverse entries) c.args.heading.now.words) in
    let lines = behind_lf line (codes "evc-order 1") (codes "totals\n") c.args.calls in
    let parts = text_parts (codes "evc-order 1") (codes "totals") (codes "end") (map line c.args.calls) (totals_by (reverse entries) c.args.heading.now.words) in
    subst (Puts c.args.out.now c.put-3.new.self)
    (ap (λ (t : List ℕ). (t ++ totals) ++ codes "end\n") lines ∙ sym parts)
    (puts_then _ _ _ _ _
    (puts_then _ _ _ _ _
    (puts_then _ _ _ _ _
    (puts_then _ _ _ _ _ c.put.ensures.puts
    (subst (λ (ns : NameTable). Puts c.put.new.self c.put_order.new.out (flat_map (λ (d : LinearizedEntry). 10 ∷ linearized_line ns d) c.args.calls))
    (c.new-spellings.ensures ∙ c.words.ensures) c.put_order.ensures))
    c.put-2.ensures.puts)
    (c.put_totals.ensures entries represents))
    c.put-3.ensures.puts)
