-- The lines that an entry gives, with the names of a header.
use Rattle.std.specs.Prelude.{ℕ, List, [], ◌∷◌, ◌++◌, codes, if◌then◌else◌, slice_get}
use Rattle.std.specs.List.{join_with_byte}
use Rattle.std.specs.Option.{option_map_or}
use Rattle.ec_count.specs.declared.target.Target.TheVariants.{Worker}
use Rattle.ec_core.specs.declared.act.Entry.{Entry}
use Rattle.ec_core.specs.Calls.{is_pending}
use Rattle.ec_heading.specs.Spelling.{NameTable, target_name, act_words, reply_word}
use Rattle.calls_kernel.specs.Outside.{is_call, is_of_call}

-- the line of the call that an entry begins, if it begins one
abbrev pub call_text : NameTable → Entry → List ℕ
call_text names x =
    if is_call x.act
    then target_name names (Worker x.worker) ++ codes " calls"
    ++ 32 ∷ join_with_byte 32 (act_words names x.act) ++ 10 ∷ []
    else []

-- the line of the response to the call that it ends, if it ends one
abbrev pub return_text : NameTable → Entry → List ℕ
return_text names x =
    if is_pending x.reply then [] else (
    if is_of_call x.act
    then target_name names (Worker x.worker) ++ codes " returns " ++ reply_word x.reply ++ 10 ∷ []
    else [])

unfoldable pub entry_text : NameTable → Entry → List ℕ
entry_text names x = call_text names x ++ return_text names x

-- the lines of the entry at a position, if there is one
abbrev pub text_at : NameTable → List Entry → ℕ → List ℕ
text_at names entries i = option_map_or (entry_text names) (slice_get entries i) []
