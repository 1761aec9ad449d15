-- The operands of a valid code name what is there.
use Rattle.std.proofs.Common.{◌≡◌, ℕ, length, Some, Bool, true, false, nat_lt}
use Rattle.std.specs.Prelude.{slice_get, ◌&&◌}
use Rattle.std.proofs.lemmas.Bool.{ltb-true}
use Rattle.verse_base.proofs.Facts.{get_within}
use Rattle.verse_code.specs.declared.operations.Op.{Op}
use Rattle.verse_code.specs.declared.operations.Op.TheVariants as o
use Rattle.verse_code.specs.declared.codes.Code.{Code}
use Rattle.verse_code.specs.Operations.{operands_of}
use Rattle.verse_code.specs.Validity.{Valid, all_suit, sizes_of}
use Rattle.verse_code_machine.specs.Acts.{place_at}
use Rattle.verse_verify_kept.proofs.Values.{Has, has}
use Rattle.verse_verify_kept.proofs.Every.{Names}

and_right : (a b : Bool) → a && b ≡ true → b ≡ true
and_right true b e = e
and_right false b e = cc

module _ (c : Code) where
  place : (i : ℕ) → nat_lt i (length c.places) ≡ true → Has (place_at c i)
  place i e = has (get_within c.places i (ltb-true i (length c.places) e)).1

  names_of : (i : ℕ) (op : Op) → all_suit (sizes_of c) i (operands_of op) ≡ true → Names c op
  names_of i (o.Int j) e = tt
  names_of i o.Unit e = tt
  names_of i o.False e = tt
  names_of i o.True e = tt
  names_of i (o.Char j) e = tt
  names_of i (o.Text j) e = get_within c.texts j (ltb-true j (length c.texts) e)
  names_of i (o.Enum j k) e = tt
  names_of i (o.Get j) e = tt
  names_of i (o.Put j) e = tt
  names_of i o.Drop e = tt
  names_of i (o.Add j) e = place j e
  names_of i (o.Sub j) e = place j e
  names_of i (o.Mul j) e = place j e
  names_of i (o.Neg j) e = place j e
  names_of i (o.Floor j) e = place j e
  names_of i (o.Ceil j) e = place j e
  names_of i o.Mod e = tt
  names_of i (o.Concat j) e = place j e
  names_of i (o.Join j k) e = place k e
  names_of i o.Lt e = tt
  names_of i o.Le e = tt
  names_of i o.Gt e = tt
  names_of i o.Ge e = tt
  names_of i o.Eq e = tt
  names_of i o.Ne e = tt
  names_of i (o.Array j k) e = place k e
  names_of i (o.Map j k) e = place k e
  names_of i (o.Tuple j k) e = place k e
  names_of i (o.Some j) e = place j e
  names_of i o.Query e = tt
  names_of i (o.Item j) e = tt
  names_of i o.At e = tt
  names_of i o.Length e = tt
  names_of i (o.New j) e = place j e
  names_of i (o.Load j) e = tt
  names_of i (o.Store j k m l) e = place l (and_right _ _ e)
  names_of i (o.Object j k) e = place k (and_right _ _ e)
  names_of i (o.Event j) e = place j e
  names_of i (o.Jump j) e = tt
  names_of i (o.Same j) e = tt
  names_of i (o.Again j) e = tt
  names_of i (o.Try j) e = tt
  names_of i o.Commit e = tt
  names_of i o.Undo e = tt
  names_of i o.Fail e = tt
  names_of i (o.Call j) e = tt
  names_of i (o.Method j k) e = tt
  names_of i o.Return e = tt
  names_of i (o.Each j) e = tt
  names_of i (o.Range j) e = tt
  names_of i (o.Take j k m) e = tt
  names_of i (o.Append j k) e = place k e
  names_of i (o.Print j) e = place j e
  names_of i (o.Sleep j) e = tt
  names_of i o.Forever e = tt
  names_of i o.AwaitTask e = tt
  names_of i o.AwaitEvent e = tt
  names_of i o.Signal e = tt
  names_of i (o.Spawn j) e = tt
  names_of i (o.SpawnMethod j k) e = tt
  names_of i (o.Group j k m) e = place m (and_right _ _ e)
  names_of i (o.Arm j) e = tt
  names_of i (o.Branch j) e = tt
  names_of i o.ArmEnd e = tt
  names_of i (o.Defer j) e = tt
  names_of i (o.Leave j) e = tt
  names_of i o.DeferEnd e = tt

  pub names : Valid c → (i : ℕ) (op : Op) → slice_get c.ops i ≡ Some op → Names c op
  names valid i op e = names_of i op (valid.operations i op e)
