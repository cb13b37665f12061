-- What a refusal is called: the letter of its layer, its number and its place. Assumes nothing.
use Rattle.std.specs.Prelude.{ℕ, Bool, cond, Ok, Err, List, Result, ◌∷◌, ◌++◌, decimal}
use Rattle.units.specs.declared.refusals.Fault.{Fault}
use Rattle.units.specs.declared.refusals.Layer.{Layer}
use Rattle.units.specs.declared.refusals.Layer.TheVariants.{Book, Text, Directory, Estimator, Ledger}
use Rattle.units.specs.declared.refusals.ListOwner.{ListOwner}
use Rattle.units.specs.declared.refusals.ListOwner.TheVariants.{OfDirectory, OfEstimator}
use Rattle.units.specs.declared.refusals.Refusal.{Refusal}
use Rattle.units.specs.declared.refusals.Refusal.TheVariants.{BookLength, BookHeader, BookOffsets, BookColumn, BookRow, BookAerodrome, StateMark, ListFull, ListCode, ListRepeated, ListValue, LineLength, LineVerb, LineFields, LineField, LedgerYear, TableLength, OutOfRange, ReferencePresent, DepartureUnknown, ArrivalUnknown, TypeUnknown, BeyondModel, EntriesFull, RowsFull, RowUnsound, ReferenceAbsent, UnderQuery, NoGap, QueriesFull, OtherLedger, NoQuery, OpenQuery, BufferShort}

-- B book, T text, D directory, E estimator, L ledger
abbrev pub letter : Layer → ℕ
letter Book = 66
letter Text = 84
letter Directory = 68
letter Estimator = 69
letter Ledger = 76

-- a short list belongs to a directory or to an estimator
abbrev pub list_layer : ListOwner → Layer
list_layer OfDirectory = Directory
list_layer OfEstimator = Estimator

abbrev pub called : Layer → ℕ → ℕ → Fault
called l n p = record { layer = l; number = n; place = p }

abbrev pub fault : Refusal → Fault
fault BookLength = called Book 1 0
fault BookHeader = called Book 2 0
fault BookOffsets = called Book 3 0
fault (BookColumn i) = called Book 4 i
fault (BookRow i) = called Book 5 i
fault (BookAerodrome i) = called Book 6 i
fault (StateMark i) = called Book 7 i
fault (ListFull o) = called (list_layer o) 8 0
fault (ListCode o) = called (list_layer o) 9 0
fault (ListRepeated o) = called (list_layer o) 10 0
fault (ListValue o) = called (list_layer o) 11 0
fault LineLength = called Text 12 0
fault LineVerb = called Text 13 0
fault LineFields = called Text 14 0
fault (LineField f) = called Text 15 f
fault LedgerYear = called Ledger 16 0
fault TableLength = called Ledger 17 0
fault (OutOfRange f) = called Ledger 18 f
fault ReferencePresent = called Ledger 19 2
fault DepartureUnknown = called Directory 20 4
fault ArrivalUnknown = called Directory 21 5
fault TypeUnknown = called Estimator 22 3
fault BeyondModel = called Estimator 23 7
fault EntriesFull = called Ledger 24 0
fault (RowsFull t) = called Ledger 25 t
fault RowUnsound = called Ledger 26 0
fault ReferenceAbsent = called Ledger 27 2
fault UnderQuery = called Ledger 28 2
fault NoGap = called Ledger 29 0
fault QueriesFull = called Ledger 30 0
fault OtherLedger = called Ledger 31 0
fault NoQuery = called Ledger 32 0
fault OpenQuery = called Text 33 0
fault BufferShort = called Text 34 0

-- as it is printed: letter, number and place, with a space between
abbrev pub fault_text : Fault → List ℕ
fault_text f = letter f.layer ∷ 32 ∷ decimal f.number ++ 32 ∷ decimal f.place

-- a check that does not hold is refused
abbrev pub held : Bool → Refusal → Result (Unit {0}) Refusal
held good refusal = cond good (Ok tt) (Err refusal)
