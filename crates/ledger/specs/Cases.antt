-- Worked cases: calls on a new ledger of bytes, and what each of them answers. Assumes nothing.
use Rattle.std.specs.Prelude.{◌≡◌, ℕ, suc, List, [], ◌∷◌, ◌++◌, map, length, Some, None, Option, nat_eq}
use Rattle.measure.specs.Fingerprints.{no_bytes, one_byte, bytes_joined}
use Rattle.measure.specs.Totals.{total as total_of}
use Rattle.ledger.specs.Answers.{Answer, Shallow, answers, done, denied, number, element, mark as mark_is, line, total, version, depth_of}
use Rattle.ledger.specs.Calls.{Call, Question, opening, closing, cancelling, inserting, deleting, setting, dropping, retracting, undoing, redoing, jumping, asking, text_length, element_at, mark_named, line_count, line_numbered, line_holding, part_total, piece_count, tree_depth, added_count, step_count, run_count, current_version, highest_version, parent_of, favoured_of, steps_of}
use Rattle.ledger.specs.Ledgers.{begin}
use Rattle.ledger.specs.Making.{Room, capacities_of, check}
use Rattle.ledger.specs.Steps.{mark}
use Rattle.ledger.specs.declared.denial.Denial.{Denial}
use Rattle.ledger.specs.declared.denial.Denial.TheVariants.{CapacityOutOfRange, TooFewRecords, OriginalTooLong, PastTheText, Nothing, AddedFull, PiecesFull, StepsFull, RunsFull, VersionsFull, AtVersionZero, NoChild, NoVersion, NoStep, MarkNotSet, NoMarkName, NoLine, GroupOpen, NoGroup}
use Rattle.ledger.specs.declared.words.Capacities.{Capacities}
use Rattle.ledger.specs.declared.words.Gravity.TheVariants.{Left, Right}

-- a fingerprint as its power and its value
abbrev pub print_of : List ℕ → ℕ × ℕ
print_of bytes = let t = total_of no_bytes one_byte bytes_joined bytes in (t.power, t.value)

-- a call and its answer
abbrev pub Line : Type 0
Line = Call ℕ × Answer ℕ (ℕ × ℕ)

pub record Case : Type 0 where
  pub original : List ℕ
  pub capacities : Capacities
  pub lines : List Line

abbrev pub case : List ℕ → Capacities → List Line → Case
case original capacities lines = record { original = original; capacities = capacities; lines = lines }

abbrev pub does : Call ℕ → Line
does call = (call, done)

-- the bytes from an offset on
abbrev pub reads : ℕ → List ℕ → List Line
reads x [] = []
reads x (b ∷ bs) = (asking (element_at x), element b) ∷ reads (suc x) bs

-- the whole text
abbrev pub shows : List ℕ → List Line
shows bytes = (asking text_length, number (length bytes)) ∷ reads 0 bytes

abbrev pub pieces : ℕ → Line
pieces n = (asking piece_count, number n)

abbrev pub runs : ℕ → Line
runs n = (asking run_count, number n)

abbrev pub current : ℕ → Line
current n = (asking current_version, number n)

-- two lines: a b break, c d break
abbrev pub copy : List ℕ
copy = 97 ∷ 98 ∷ 10 ∷ 99 ∷ 100 ∷ 10 ∷ []

abbrev pub ample : Capacities
ample = capacities_of 64 64 64 64 64

-- the bytes X and Y, and the marks a and b
abbrev pub X : List ℕ
X = 88 ∷ []

abbrev pub Y : List ℕ
Y = 89 ∷ []

abbrev pub a_mark : ℕ
a_mark = 97

abbrev pub b_mark : ℕ
b_mark = 98

abbrev pub cases : List Case
cases =
    -- an insert at the start stands before the original
    case copy ample (does opening ∷ does (inserting 0 X) ∷ (shows (88 ∷ copy) ++ (pieces 2 ∷ [])))
    -- typing on goes on with the same piece
    ∷ case copy ample (does opening ∷ does (inserting 2 X) ∷ does (inserting 3 Y) ∷ (shows (97 ∷ 98 ∷ 88 ∷ 89 ∷ 10 ∷ 99 ∷ 100 ∷ 10 ∷ []) ++ (pieces 3 ∷ [])))
    -- typing before what was typed begins another
    ∷ case copy ample (does opening ∷ does (inserting 2 X) ∷ does (inserting 2 Y) ∷ (shows (97 ∷ 98 ∷ 89 ∷ 88 ∷ 10 ∷ 99 ∷ 100 ∷ 10 ∷ []) ++ (pieces 4 ∷ [])))
    -- a delete keeps the pieces of the part that it removes
    ∷ case copy ample
    (does opening ∷ does (deleting 1 2)
    ∷ (shows (97 ∷ 99 ∷ 100 ∷ 10 ∷ []) ++ (pieces 2 ∷ runs 1 ∷ does (deleting 0 2) ∷ (shows (100 ∷ 10 ∷ []) ++ (pieces 1 ∷ runs 3 ∷ [])))))
    -- marks go with what is inserted by their gravity, and come back when a delete is retracted
    ∷ case copy ample
    (does opening ∷ does (setting a_mark 2 Right) ∷ does (setting b_mark 2 Left) ∷ does (inserting 2 X)
    ∷ (asking (mark_named a_mark), mark_is (mark 3 Right)) ∷ (asking (mark_named b_mark), mark_is (mark 2 Left))
    ∷ does (deleting 1 2)
    ∷ (asking (mark_named a_mark), mark_is (mark 1 Right)) ∷ (asking (mark_named b_mark), mark_is (mark 1 Left))
    ∷ does retracting
    ∷ (asking (mark_named a_mark), mark_is (mark 3 Right)) ∷ (asking (mark_named b_mark), mark_is (mark 2 Left)) ∷ [])
    -- lines count from 1, offsets from 0
    ∷ case copy ample
    ((asking (line_numbered 2), line 3 3) ∷ (asking (line_numbered 3), denied NoLine) ∷ (asking (element_at 6), denied PastTheText) ∷ [])
    -- the fingerprint of the first line
    ∷ case copy ample ((asking (part_total 0 3), total (29791, 97258)) ∷ [])
    -- an empty text
    ∷ case [] ample
    ((asking text_length, number 0) ∷ (asking line_count, number 0) ∷ pieces 0 ∷ (asking tree_depth, depth_of 0) ∷ (asking (part_total 0 0), total (1, 0)) ∷ [])
    -- redo takes the child that was last on the current path, and not the newest
    ∷ case copy ample
    (does opening ∷ does (inserting 0 X) ∷ does closing ∷ does undoing
    ∷ does opening ∷ does (inserting 0 Y) ∷ does closing ∷ does undoing ∷ does redoing ∷ current 2
    ∷ does (jumping 1) ∷ does undoing ∷ does redoing ∷ current 1 ∷ [])
    -- cancelling gives back what the group added
    ∷ case copy (capacities_of 1 64 64 64 64)
    (does opening ∷ does (inserting 0 X) ∷ does cancelling ∷ does opening ∷ does (inserting 0 Y) ∷ (inserting 0 X, denied AddedFull) ∷ [])
    ∷ []

-- a call that is denied
abbrev pub denies : Denial → Call ℕ → Line
denies d call = (call, denied d)

-- The order in which the denials of a call are tested: the condition of the number given holds, and so do those of later ones.
abbrev pub orders : List Case
orders =
    -- outside a group
    case copy ample
    (denies NoGroup (inserting 9 []) ∷ denies NoGroup (deleting 9 0) ∷ denies NoGroup (setting 65 9 Left) ∷ denies NoGroup (dropping 65)
    ∷ denies NoGroup retracting ∷ denies AtVersionZero undoing ∷ denies NoChild redoing ∷ denies NoVersion (jumping 1) ∷ does closing ∷ does cancelling ∷ [])
    -- inside a group
    ∷ case copy ample
    (does opening ∷ denies GroupOpen opening ∷ denies GroupOpen undoing ∷ denies GroupOpen redoing ∷ denies GroupOpen (jumping 1) ∷ denies NoStep retracting ∷ [])
    -- an insert: of nothing, past the text, steps, added elements, pieces
    ∷ case copy (capacities_of 0 1 64 0 64) (does opening ∷ denies Nothing (inserting 9 []) ∷ denies PastTheText (inserting 9 X) ∷ denies StepsFull (inserting 0 X) ∷ [])
    ∷ case copy (capacities_of 0 1 64 64 64) (does opening ∷ denies AddedFull (inserting 0 X) ∷ [])
    ∷ case copy (capacities_of 1 1 64 64 64) (does opening ∷ denies PiecesFull (inserting 6 X) ∷ [])
    -- a delete: of nothing, past the text, steps, kept runs, pieces
    ∷ case copy (capacities_of 64 1 64 0 0) (does opening ∷ denies Nothing (deleting 9 0) ∷ denies PastTheText (deleting 1 6) ∷ denies StepsFull (deleting 1 2) ∷ [])
    ∷ case copy (capacities_of 64 1 64 64 0) (does opening ∷ denies RunsFull (deleting 1 2) ∷ [])
    ∷ case copy (capacities_of 64 1 64 64 1) (does opening ∷ denies PiecesFull (deleting 1 2) ∷ does (deleting 0 6) ∷ [])
    -- marks: the name, past the text or not set, steps; a mark may stand at the text's end
    ∷ case copy (capacities_of 64 64 64 1 64)
    (does opening ∷ denies NoMarkName (setting 96 7 Left) ∷ denies NoMarkName (setting 123 7 Left) ∷ denies PastTheText (setting 122 7 Left)
    ∷ denies NoMarkName (dropping 123) ∷ denies MarkNotSet (dropping 122) ∷ does (setting 122 6 Left)
    ∷ denies PastTheText (setting 97 7 Left) ∷ denies StepsFull (setting 97 6 Left) ∷ denies MarkNotSet (dropping 97) ∷ denies StepsFull (dropping 122)
    ∷ denies NoMarkName (asking (mark_named 123)) ∷ denies MarkNotSet (asking (mark_named 97)) ∷ [])
    -- versions: no more than their capacity, version 0 included
    ∷ case copy (capacities_of 64 64 2 64 64) (does opening ∷ does (deleting 0 1) ∷ does closing ∷ denies VersionsFull opening ∷ current 1 ∷ [])
    ∷ []

-- a question and its number
abbrev pub counts : Question → ℕ → Line
counts q n = (asking q, number n)

abbrev pub leads : Question → Option ℕ → Line
leads q v = (asking q, version v)

-- What the questions answer, at their edges.
abbrev pub edges : List Case
edges =
    -- a last line without a break is a line
    case (97 ∷ 10 ∷ 98 ∷ []) ample
    (counts line_count 2 ∷ (asking (line_numbered 1), line 0 2) ∷ (asking (line_numbered 2), line 2 1)
    ∷ denies NoLine (asking (line_numbered 0)) ∷ denies NoLine (asking (line_numbered 3))
    ∷ counts (line_holding 0) 1 ∷ counts (line_holding 1) 1 ∷ counts (line_holding 2) 2 ∷ denies PastTheText (asking (line_holding 3))
    ∷ (asking (part_total 3 3), total (1, 0)) ∷ denies PastTheText (asking (part_total 2 1)) ∷ denies PastTheText (asking (part_total 0 4)) ∷ [])
    -- a delete keeps the runs of its own part, and of nothing behind it
    ∷ case copy ample (does opening ∷ does (deleting 1 2) ∷ does (deleting 0 1) ∷ runs 2 ∷ [])
    -- two children of version 0; what they use stays in use, whichever is current
    ∷ case copy ample
    (does opening ∷ does (inserting 0 X) ∷ does (setting a_mark 0 Left) ∷ does closing ∷ does undoing
    ∷ does opening ∷ does (deleting 0 1) ∷ does closing
    ∷ current 2 ∷ counts highest_version 2 ∷ counts added_count 1 ∷ counts step_count 3 ∷ runs 1
    ∷ leads (parent_of 0) None ∷ leads (parent_of 1) (Some 0) ∷ leads (parent_of 2) (Some 0) ∷ denies NoVersion (asking (parent_of 3))
    ∷ leads (favoured_of 0) (Some 2) ∷ leads (favoured_of 2) None ∷ denies NoVersion (asking (favoured_of 3))
    ∷ counts (steps_of 0) 0 ∷ counts (steps_of 1) 2 ∷ counts (steps_of 2) 1 ∷ denies NoVersion (asking (steps_of 3))
    ∷ does (jumping 1) ∷ leads (favoured_of 0) (Some 1) ∷ counts text_length 7 ∷ (asking (mark_named a_mark), mark_is (mark 0 Left))
    ∷ does undoing ∷ denies MarkNotSet (asking (mark_named a_mark)) ∷ counts text_length 6 ∷ counts added_count 1 ∷ [])
    -- an empty group makes no version
    ∷ case copy ample (does opening ∷ does closing ∷ counts highest_version 0 ∷ does opening ∷ does cancelling ∷ counts highest_version 0 ∷ [])
    ∷ []

-- all of them
abbrev pub all_cases : List Case
all_cases = cases ++ (orders ++ edges)

-- what the rules answer to the calls of a case, and what is written there
abbrev pub answered : Case → List (Answer ℕ (ℕ × ℕ))
answered c = answers (λ b. nat_eq b 10) print_of (begin c.original c.capacities) (map (λ l. l.0) c.lines)

abbrev pub written : Case → List (Answer ℕ (ℕ × ℕ))
written c = map (λ l. l.1) c.lines

-- the check before a making: the length of the original, the capacities, the memory, and what the check answers
abbrev pub Trial : Type 0
Trial = ℕ × Capacities × Room × Option Denial

abbrev pub room_of : ℕ → ℕ → ℕ → ℕ → ℕ → Room
room_of added places versions steps runs = record { added = added; places = places; versions = versions; steps = steps; runs = runs }

abbrev pub none_at_all : Room
none_at_all = room_of 0 0 0 0 0

-- the least and the greatest capacities, and the memory that they need
abbrev pub least : Capacities
least = capacities_of 0 1 1 0 0

abbrev pub least_room : Room
least_room = room_of 0 9 1 0 0

abbrev pub greatest : Capacities
greatest = capacities_of 8388608 65536 65536 262144 262144

abbrev pub greatest_room : Room
greatest_room = room_of 8388608 65544 65536 262144 262144

abbrev pub trials : List Trial
trials =
    (0, least, least_room, None)
    ∷ (8388608, greatest, greatest_room, None)
    -- each capacity outside its range, whatever else is wrong
    ∷ (8388609, capacities_of 8388609 1 1 0 0, none_at_all, Some CapacityOutOfRange)
    ∷ (8388609, capacities_of 0 0 1 0 0, none_at_all, Some CapacityOutOfRange)
    ∷ (8388609, capacities_of 0 65537 1 0 0, none_at_all, Some CapacityOutOfRange)
    ∷ (8388609, capacities_of 0 1 0 0 0, none_at_all, Some CapacityOutOfRange)
    ∷ (8388609, capacities_of 0 1 65537 0 0, none_at_all, Some CapacityOutOfRange)
    ∷ (8388609, capacities_of 0 1 1 262145 0, none_at_all, Some CapacityOutOfRange)
    ∷ (8388609, capacities_of 0 1 1 0 262145, none_at_all, Some CapacityOutOfRange)
    -- each kind of record one short
    ∷ (8388609, greatest, room_of 8388607 65544 65536 262144 262144, Some TooFewRecords)
    ∷ (8388609, greatest, room_of 8388608 65543 65536 262144 262144, Some TooFewRecords)
    ∷ (8388609, greatest, room_of 8388608 65544 65535 262144 262144, Some TooFewRecords)
    ∷ (8388609, greatest, room_of 8388608 65544 65536 262143 262144, Some TooFewRecords)
    ∷ (8388609, greatest, room_of 8388608 65544 65536 262144 262143, Some TooFewRecords)
    ∷ (8388609, greatest, greatest_room, Some OriginalTooLong)
    ∷ []

-- in every case the rules answer what is written there, and a tree without pieces has no depth but 0
pub record Worked : Type 0 where
  pub answers_hold : map answered all_cases ≡ map written all_cases
  pub checks_hold : map (λ t. check t.0 t.1 t.2) trials ≡ map (λ t. t.3) trials
  pub empty_is_flat : (d : ℕ) → Shallow 0 d → d ≡ 0
