-- The parts of an entry's line.
use Rattle.std.proofs.Common.{◌≡◌, ℕ, List, [], ◌∷◌, ◌++◌, append_assoc, codes}
use Rattle.std.specs.List.{join_with_byte}
use Rattle.ec_count.specs.declared.target.Target.TheVariants.{Worker}
use Rattle.ec_core.specs.declared.act.Act.{Act}
use Rattle.ec_core.specs.declared.act.Act.TheVariants.{Advance, Read, Await, Go, Ticket, Put, Get, Hand}
use Rattle.ec_core.specs.declared.act.Entry.{Entry}
use Rattle.ec_heading.specs.Spelling.{NameTable, target_name, act_words, reply_word, entry_line}

around : (names : NameTable) (all before w r : List ℕ) (a : Act)
    → all ++ (before ++ join_with_byte 32 (w ∷ act_words names a ++ codes "=" ∷ r ∷ [])) ≡ ((all ++ (before ++ w)) ++ 32 ∷ join_with_byte 32 (act_words names a)) ++ (codes " = " ++ r)
around names all before w r (Advance e) = simp append_assoc
around names all before w r (Read e) = simp append_assoc
around names all before w r (Await e v) = simp append_assoc
around names all before w r Go = simp append_assoc
around names all before w r (Ticket q) = simp append_assoc
around names all before w r (Put x v) = simp append_assoc
around names all before w r (Get x) = simp append_assoc
around names all before w r (Hand e b) = simp append_assoc

pub entry_parts : (names : NameTable) (e : Entry) (all before : List ℕ)
    → all ++ (before ++ entry_line names e) ≡ ((all ++ (before ++ target_name names (Worker e.worker))) ++ 32 ∷ join_with_byte 32 (act_words names e.act)) ++ (codes " = " ++ reply_word e.reply)
unfolding entry_line
entry_parts names e all before = around names all before (target_name names (Worker e.worker)) (reply_word e.reply) e.act
