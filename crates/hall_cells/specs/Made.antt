-- What the calls of a pass say of the events that they made.
use Rattle.std.specs.Prelude.{◌≡◌, ℕ, List, [], ◌∷◌, ◌++◌}
use Rattle.hall_cells.specs.declared.deed.Deed.{Deed}
use Rattle.hall_cells.specs.declared.deed.Least.{Least}
use Rattle.hall_rule.specs.EventLog.{replay}
use Rattle.hall_rule.specs.Meaning.{Meaning}
use Rattle.hall_rule.specs.declared.view.Entry.{Entry}
use Rattle.hall_rule.specs.declared.view.View.{View}

module _ (M : Meaning ℕ Deed ℕ Least) where
  -- One event more was made, this deed, and the log ends with it. What is said holds of the state
  -- before it.
  pub record MakesDeed (deed : Deed) (said : List ℕ → Type 0) (v w : View Deed) : Type 0 where
    pub before : List (Entry Deed)
    pub entry : Entry Deed
    pub event : entry.event ≡ deed
    pub log : w.log ≡ before ++ entry ∷ []
    pub mine : w.mine ≡ v.mine ++ entry ∷ []
    pub state : said (replay M before)

  -- No event was made. What is said holds of the state that the log leaves.
  pub record MakesNone (said : List ℕ → Type 0) (v w : View Deed) : Type 0 where
    pub mine : w.mine ≡ v.mine
    pub state : said (replay M w.log)
