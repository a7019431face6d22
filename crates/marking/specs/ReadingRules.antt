-- What the bytes of a paragraph say, as functions that compute it; and when these functions compute the Rules.
use Rattle.std.specs.Prelude.{◌≡◌, ◌↔◌, ◌≢◌, ℕ, ◌≤◌, ◌<◌}
use Rattle.std.proofs.Math.Option.{Option, some}
use Rattle.marking.specs.Marking.{Kind, closing, trailing, role, Piece, Rules}

pub record Grammar (T : Type 0) : Type 0 where
  pub size : ℕ
  -- the kind and the end of the piece that starts at a place before the paragraph's end
  pub kind_at : ℕ → Kind
  pub end_at : ℕ → ℕ
  -- the tail of a pair whose text begins at the first place and whose closing piece begins at the second
  pub tail_at : ℕ → ℕ → Option T
  pub length_of : T → ℕ

-- the piece is what the grammar computes at its start
pub record Computed {T : Type 0} (g : Grammar T) (q : Piece) : Type 0 where
  pub inside : q.start < g.size
  pub kind_is : q.kind ≡ g.kind_at q.start
  pub end_is : q.end ≡ g.end_at q.start

-- the grammar computes what the rules say: of every piece that is no tail, and of the tail at every closing piece
pub record Computes {T : Type 0} (r : Rules T) (g : Grammar T) : Type 0 where
  pub sizes : r.size ≡ g.size
  pub lengths : (t : T) → r.length_of t ≡ g.length_of t
  pub starts : (q : Piece) → role q.kind ≢ trailing → r.Starts q ↔ Computed g q
  pub tails : (o s : ℕ) (t : T) → o ≤ s → s < g.size → role (g.kind_at s) ≡ closing → r.TailAt o s t ↔ (g.tail_at o s ≡ some t)
