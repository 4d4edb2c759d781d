-- What a writer does with a buffer, and with a page. Assumes nothing.
use Rattle.std.specs.Prelude.{◌≡◌, ℕ, ◌+◌, ◌<◌, ◌≤◌, List, ◌++◌, length, take, drop, Some, None, Option, Ok, Err, Result, OnErr}
use Rattle.printing.specs.declared.Page.{Page}
use Rattle.printing.specs.declared.NoRoom.{NoRoom}

-- the buffer with `bytes` from `at` on, and else as it was
abbrev pub written : List ℕ → ℕ → List ℕ → List ℕ
written before at bytes = take at before ++ (bytes ++ drop (at + length bytes) before)

-- Where they fit, `bytes` stand from `at` on, the rest is as it was, and the answer is where they end;
-- where they do not, the buffer is as it was and there is no answer.
abbrev pub Put : List ℕ → List ℕ → ℕ → List ℕ → Option ℕ → Type 0
Put before after at bytes None = (length before < at + length bytes) × (after ≡ before)
Put before after at bytes (Some end) = (at + length bytes ≤ length before) × (end ≡ at + length bytes) × (after ≡ written before at bytes)

-- where the bytes printed on a page end, if they had room
abbrev pub end_of : Page → Result Unit NoRoom → Option ℕ
end_of page (Ok _) = Some page.end
end_of page (Err _) = None

-- `bytes` are put in the page's buffer where its printed bytes ended, if they have room, and else the page is as it was
pub record Prints (old new : Page) (bytes : List ℕ) (result : Result Unit NoRoom) : Type 0 where
  pub puts : Put old.buffer.now new.buffer.now old.end bytes (end_of new result)
  pub stays : OnErr result (new.end ≡ old.end)
  pub same_reference : new.buffer.ghost_name ≡ old.buffer.ghost_name
