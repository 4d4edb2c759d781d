-- The law of versions: what stood when a version was made stands for that version ever after. Assumes nothing.
use Rattle.std.specs.Prelude.{◌≡◌, ℕ, suc, ◌<◌, Bool, ◌⊎◌, List, [], ◌∷◌, ◌++◌, length, None, Option}
use Rattle.ledger.specs.Calls.{Call, closing, run}
use Rattle.ledger.specs.History.{story}
use Rattle.ledger.specs.Ledgers.{Ledger, begin, content, text}
use Rattle.ledger.specs.Places.{elements_at}
use Rattle.ledger.specs.Steps.{Content, replay}
use Rattle.ledger.specs.declared.words.Capacities.{Capacities}
use Rattle.ledger.specs.declared.words.Mark.{Mark}

module _ {E : Type 0} (k : ℕ) (l : Ledger E) where
  -- the places and the marks of version k
  abbrev pub content_at : Content
  content_at = replay (length l.original) (story k l.versions)

  -- the text of version k
  abbrev pub text_at : List E
  text_at = elements_at l.original l.added content_at.places

module _ {E : Type 0} (breaks : E → Bool) (start : Ledger E) where
  -- the last of the calls is a closing that makes version k: there are k versions without it, and one more with it
  pub record Closing (k : ℕ) (before : List (Call E)) : Type 0 where
    pub earlier : List (Call E)
    pub closed : before ≡ earlier ++ closing ∷ []
    pub not_yet : length (run breaks start earlier).versions ≡ k
    pub made : length (run breaks start before).versions ≡ suc k

  -- The calls `before` lead to the moment when version k was made. Version 0 is made with the ledger, before any call, and
  -- every other version by a closing. Then it is the current version, and no group is open.
  pub record Made (k : ℕ) (before : List (Call E)) : Type 0 where
    pub by : ((k ≡ 0) × (before ≡ [])) ⊎ Closing k before
    pub current : (run breaks start before).current ≡ k
    pub idle : (run breaks start before).group ≡ None

  -- a text and marks stood when version k was made, at a moment within the calls
  pub record Stood (calls : List (Call E)) (k : ℕ) (words : List E) (marks : List (Option Mark)) : Type 0 where
    pub before : List (Call E)
    pub after : List (Call E)
    pub split : calls ≡ before ++ after
    pub moment : Made k before
    pub same_text : text (run breaks start before) ≡ words
    pub same_marks : (content (run breaks start before)).marks ≡ marks

  -- after some calls, each version has the text and the marks that stood when it was made, and with no group open the
  -- present text and marks are those of the current version
  pub record Standing (calls : List (Call E)) : Type 0 where
    pub each :
        (k : ℕ)
        → k < length (run breaks start calls).versions
        → Stood calls k (text_at k (run breaks start calls)) (content_at k (run breaks start calls)).marks
    pub present :
        (run breaks start calls).group ≡ None
        → Stood calls (run breaks start calls).current (text (run breaks start calls)) (content (run breaks start calls)).marks

-- the law, of any new ledger and any calls
abbrev pub Stands : {E : Type 0} → (E → Bool) → Type 0
Stands {E} breaks = (original : List E) (capacities : Capacities) (calls : List (Call E)) → Standing breaks (begin original capacities) calls
