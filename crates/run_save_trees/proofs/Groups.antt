-- The operation at which a frame stands where it gathers the arms of a group.
use Rattle.std.proofs.Common.{◌≡◌, ℕ, Bool, true, false, refl, sym, ap, ◌∙◌}
use Rattle.verse_code.specs.declared.operations.Op.{Op}
use Rattle.verse_code.specs.declared.operations.Op.TheVariants as o
use Rattle.run_save_shots.specs.Fitting.{Stand, calls, sleeps, stays, awaits_task, awaits_event, gathers, goes_on, stand_of}

abbrev is_gathering : Stand → Bool
is_gathering (gathers k m p) = true
is_gathering st = false

-- only a group gathers
apart : (st : Stand) (k m p : ℕ) → is_gathering st ≡ false → st ≡ gathers k m p → ⊥
apart st k m p f e = absurd (true_is_not (sym f ∙ ap is_gathering e))
  where
    true_is_not : false ≡ true → ⊥
    true_is_not g = absurd (cc)

pub group_of : (op : Op) (k m p : ℕ) → stand_of op ≡ gathers k m p → op ≡ o.Group k m p
group_of (o.Int x0) k m p e = absurd (apart goes_on k m p refl e)
group_of o.Unit k m p e = absurd (apart goes_on k m p refl e)
group_of o.False k m p e = absurd (apart goes_on k m p refl e)
group_of o.True k m p e = absurd (apart goes_on k m p refl e)
group_of (o.Char x0) k m p e = absurd (apart goes_on k m p refl e)
group_of (o.Text x0) k m p e = absurd (apart goes_on k m p refl e)
group_of (o.Enum x0 x1) k m p e = absurd (apart goes_on k m p refl e)
group_of (o.Get x0) k m p e = absurd (apart goes_on k m p refl e)
group_of (o.Put x0) k m p e = absurd (apart goes_on k m p refl e)
group_of o.Drop k m p e = absurd (apart goes_on k m p refl e)
group_of (o.Add x0) k m p e = absurd (apart goes_on k m p refl e)
group_of (o.Sub x0) k m p e = absurd (apart goes_on k m p refl e)
group_of (o.Mul x0) k m p e = absurd (apart goes_on k m p refl e)
group_of (o.Neg x0) k m p e = absurd (apart goes_on k m p refl e)
group_of (o.Floor x0) k m p e = absurd (apart goes_on k m p refl e)
group_of (o.Ceil x0) k m p e = absurd (apart goes_on k m p refl e)
group_of o.Mod k m p e = absurd (apart goes_on k m p refl e)
group_of (o.Concat x0) k m p e = absurd (apart goes_on k m p refl e)
group_of (o.Join x0 x1) k m p e = absurd (apart goes_on k m p refl e)
group_of o.Lt k m p e = absurd (apart goes_on k m p refl e)
group_of o.Le k m p e = absurd (apart goes_on k m p refl e)
group_of o.Gt k m p e = absurd (apart goes_on k m p refl e)
group_of o.Ge k m p e = absurd (apart goes_on k m p refl e)
group_of o.Eq k m p e = absurd (apart goes_on k m p refl e)
group_of o.Ne k m p e = absurd (apart goes_on k m p refl e)
group_of (o.Array x0 x1) k m p e = absurd (apart goes_on k m p refl e)
group_of (o.Map x0 x1) k m p e = absurd (apart goes_on k m p refl e)
group_of (o.Tuple x0 x1) k m p e = absurd (apart goes_on k m p refl e)
group_of (o.Some x0) k m p e = absurd (apart goes_on k m p refl e)
group_of o.Query k m p e = absurd (apart goes_on k m p refl e)
group_of (o.Item x0) k m p e = absurd (apart goes_on k m p refl e)
group_of o.At k m p e = absurd (apart goes_on k m p refl e)
group_of o.Length k m p e = absurd (apart goes_on k m p refl e)
group_of (o.New x0) k m p e = absurd (apart goes_on k m p refl e)
group_of (o.Load x0) k m p e = absurd (apart goes_on k m p refl e)
group_of (o.Store x0 x1 x2 x3) k m p e = absurd (apart goes_on k m p refl e)
group_of (o.Object x0 x1) k m p e = absurd (apart goes_on k m p refl e)
group_of (o.Event x0) k m p e = absurd (apart goes_on k m p refl e)
group_of (o.Jump x0) k m p e = absurd (apart goes_on k m p refl e)
group_of (o.Same x0) k m p e = absurd (apart goes_on k m p refl e)
group_of (o.Again x0) k m p e = absurd (apart goes_on k m p refl e)
group_of (o.Try x0) k m p e = absurd (apart goes_on k m p refl e)
group_of o.Commit k m p e = absurd (apart goes_on k m p refl e)
group_of o.Undo k m p e = absurd (apart goes_on k m p refl e)
group_of o.Fail k m p e = absurd (apart goes_on k m p refl e)
group_of (o.Call x0) k m p e = absurd (apart calls k m p refl e)
group_of (o.Method x0 x1) k m p e = absurd (apart calls k m p refl e)
group_of o.Return k m p e = absurd (apart goes_on k m p refl e)
group_of (o.Each x0) k m p e = absurd (apart goes_on k m p refl e)
group_of (o.Range x0) k m p e = absurd (apart goes_on k m p refl e)
group_of (o.Take x0 x1 x2) k m p e = absurd (apart goes_on k m p refl e)
group_of (o.Append x0 x1) k m p e = absurd (apart goes_on k m p refl e)
group_of (o.Print x0) k m p e = absurd (apart goes_on k m p refl e)
group_of (o.Sleep x0) k m p e = absurd (apart sleeps k m p refl e)
group_of o.Forever k m p e = absurd (apart stays k m p refl e)
group_of o.AwaitTask k m p e = absurd (apart awaits_task k m p refl e)
group_of o.AwaitEvent k m p e = absurd (apart awaits_event k m p refl e)
group_of o.Signal k m p e = absurd (apart goes_on k m p refl e)
group_of (o.Spawn x0) k m p e = absurd (apart goes_on k m p refl e)
group_of (o.SpawnMethod x0 x1) k m p e = absurd (apart goes_on k m p refl e)
group_of (o.Group i j q) k m p e = cc
group_of (o.Arm x0) k m p e = absurd (apart goes_on k m p refl e)
group_of (o.Branch x0) k m p e = absurd (apart goes_on k m p refl e)
group_of o.ArmEnd k m p e = absurd (apart goes_on k m p refl e)
group_of (o.Defer x0) k m p e = absurd (apart goes_on k m p refl e)
group_of (o.Leave x0) k m p e = absurd (apart goes_on k m p refl e)
group_of o.DeferEnd k m p e = absurd (apart goes_on k m p refl e)
