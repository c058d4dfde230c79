-- Responses that are messages which Rust can hold, one more or one less.
use Rattle.std.proofs.Common.{ℕ, ℤ, List, [], ◌∷◌, ◌++◌}
use Rattle.std.specs.List.{fold}
use Rattle.kmip_store.specs.declared.maker.Made.{Made}
use Rattle.kmip_server.specs.Machine.{Run, serve, fresh, run_of}
use Rattle.kmip_server.specs.Serving.{IsHeldTo, AreResponsesHeld}

fold_held_on : (t : ℤ) (run : Run) (ws : List (List ℕ)) (b : List ℕ) → AreResponsesHeld t run ws
    → IsHeldTo t (fold (serve t) run ws) b → AreResponsesHeld t run (ws ++ b ∷ [])
fold_held_on t run [] b all one = (one, tt)
fold_held_on t run (w ∷ ws) b all one = (all.0, fold_held_on t (serve t run w) ws b all.1 one)

fold_held_last : (t : ℤ) (run : Run) (ws : List (List ℕ)) (b : List ℕ)
    → AreResponsesHeld t run (ws ++ b ∷ []) → AreResponsesHeld t run ws
    × IsHeldTo t (fold (serve t) run ws) b
fold_held_last t run [] b all = (tt, all.0)
fold_held_last t run (w ∷ ws) b all =
    let later = fold_held_last t (serve t run w) ws b all.1 in
    ((all.0, later.0), later.1)

pub held_on : (t : ℤ) (given : List Made) (ws : List (List ℕ)) (b : List ℕ)
    → AreResponsesHeld t (fresh given) ws → IsHeldTo t (run_of t given ws) b
    → AreResponsesHeld t (fresh given) (ws ++ b ∷ [])
unfolding run_of
held_on t given ws b all one = fold_held_on t (fresh given) ws b all one

pub held_last : (t : ℤ) (given : List Made) (ws : List (List ℕ)) (b : List ℕ)
    → AreResponsesHeld t (fresh given) (ws ++ b ∷ []) → AreResponsesHeld t (fresh given) ws
    × IsHeldTo t (run_of t given ws) b
unfolding run_of
held_last t given ws b all = fold_held_last t (fresh given) ws b all
