-- Cells and spawned entries that are read are spelled by their bytes.
use Rattle.std.proofs.Common.{ℕ, ◌≤◌, List, [], length, Option, Some, None, slice_get}
use Rattle.std.proofs.Common.{refl, sym, subst, arith}
use Rattle.verse_image.specs.Format.{Field, byte}
use Rattle.verse_image.specs.Reading.{Reader}
use Rattle.verse_code.specs.declared.codes.Class.{Class}
use Rattle.verse_value.specs.declared.runs.CellKind.TheVariants as cell
use Rattle.run_save_format.specs.declared.forms.CellForm.{CellForm}
use Rattle.run_save_format.specs.declared.forms.CellForm.TheVariants as of_cell
use Rattle.run_save_format.specs.declared.weights.Where.TheVariants as place
use Rattle.run_save_format.specs.Format.{wide, list, maybe, cell_kind, cell_field, given}
use Rattle.run_save_format.specs.Reading.{cell_at, cell_forms, cells_at, entry_at, given_at, kind_at, kind_form_at, noted_at, object_of}
use Rattle.run_save_format.specs.Reading.{spawned_at}
use Rattle.run_save_format.proofs.Lefts.{AllLeft, Noted, one_more_left}
use Rattle.run_save_told.proofs.Telling.{Tells, tells, fails, tells_then, tells_as, Within, Told, TellsField, With}
use Rattle.run_save_told.proofs.Numbers.{tells_wide, tells_in, tells_most, tells_small, Numbered, tells_choice, tells_each, tells_maybe}
use Rattle.run_save_told.proofs.Values.{Free, tells_weighed, tells_slots, tells_free}

-- ---- how many bytes were left at each

pub tells_noted : {most : ℕ} {A S : Type 0} (f : A → Field) (one : S → Reader (A × S)) →
    ((s : S) → TellsField most (Free f) (one s)) → (s : S × List ℕ) → Noted most s → TellsField most (With f (Noted most)) (noted_at one s)
unfolding noted_at
tells_noted {most = most} f one h s all bytes b =
    tells_then _ (h s.0 bytes b) (λ x p. tells ((p.0, one_more_left most (length bytes) s.1 all b.few), p.1))

-- ---- cells

abbrev cell_number : CellForm → ℕ
cell_number of_cell.Var = 0
cell_number of_cell.Event = 1
cell_number of_cell.Object = 2

cells_numbered : Numbered cell_number 0 cell_forms
cells_numbered = (refl, (refl, (refl, tt)))

tells_object : {most : ℕ} (left class : ℕ) (o : Option Class) (before bytes rest : List ℕ) → left ≤ most →
    cell_kind (cell.Object class) before rest → Within most rest →
    Tells most (Told most (Free cell_kind) before) (object_of left class o rest)
tells_object left class None before bytes rest low h b = fails low
tells_object left class (Some c) before bytes rest low h b = tells (h, b)

-- behind the number of its form
tells_kind_form : {most : ℕ} (classes : List Class) (form : CellForm) (before bytes : List ℕ) → byte (cell_number form) before bytes →
    Within most bytes → Tells most (Told most (Free cell_kind) before) (kind_form_at classes form bytes)
unfolding kind_form_at
tells_kind_form classes of_cell.Var before bytes e b = tells (e, b)
tells_kind_form classes of_cell.Event before bytes e b = tells (e, b)
tells_kind_form classes of_cell.Object before bytes e b =
    tells_then _ (tells_small bytes b)
    (λ n p. tells_object (length bytes) n.0 (slice_get classes n.0) before bytes n.1 b.few (bytes, e, p.0) p.1)

tells_kind : {most : ℕ} (classes : List Class) → TellsField most (Free cell_kind) (kind_at classes)
unfolding kind_at
tells_kind classes bytes b =
    tells_then _ (tells_choice cell_number cell_forms cells_numbered (omega arith) bytes b)
    (λ form p. tells_kind_form classes form.0 bytes form.1 p.0 p.1)

tells_cell : {most : ℕ} (classes : List Class) (cells : ℕ) → TellsField most (Free cell_field) (cell_at classes cells)
unfolding cell_at
tells_cell classes cells bytes b =
    let w = place.Cell (length bytes) in
    tells_then _ (tells_kind classes bytes b)
    (λ kind k. tells_then _ (tells_weighed w (length bytes) 1 (record { value = 0; cells = cells }) b.few b.few)
    (λ load l. tells_then _ (tells_in 5 kind.0.1 kind.0.1 kind.1 k.1)
    (λ n p. tells_then _ (tells_slots w b.few n.0 load.cells n.1 p.1)
    (λ slots q. tells ((kind.1, k.0, (n.1, subst (λ m. wide m kind.1 n.1) (sym q.0.1) p.0.0, q.0.0)), q.1)))))

pub tells_cells : {most : ℕ} (classes : List Class) → TellsField most (With (list cell_field) (AllLeft most)) (cells_at classes)
unfolding cells_at
tells_cells {most = most} classes bytes b =
    tells_then _ (tells_wide bytes b)
    (λ n p. tells_then _
    (tells_each cell_field (Noted most) (noted_at (cell_at classes)) (tells_noted cell_field (cell_at classes) (tells_cell classes))
    n.0 (0, []) tt n.1 p.1)
    (λ cells q. tells (((n.1, subst (λ m. wide m bytes n.1) (sym q.0.0.1) p.0, q.0.0.0), q.0.1), q.1)))

-- ---- spawned entries

tells_given : {most : ℕ} (entries : ℕ) → TellsField most given (given_at entries)
unfolding given_at
tells_given entries bytes b =
    tells_then _ (tells_free entries bytes b)
    (λ v p. tells_then _ (tells_wide v.1 p.1) (λ moment q. tells ((v.1, p.0, q.0), q.1)))

tells_entry : {most : ℕ} (entries : ℕ) (lefts : List ℕ) → AllLeft most lefts →
    TellsField most (With (maybe given) (AllLeft most)) (entry_at entries lefts)
unfolding entry_at
tells_entry {most = most} entries lefts all bytes b =
    tells_then _ (tells_maybe given (given_at entries) (tells_given entries) bytes b)
    (λ g p. tells ((p.0, one_more_left most (length bytes) lefts all b.few), p.1))

pub tells_spawned : {most : ℕ} (spent : ℕ) → TellsField most (With (list (maybe given)) (AllLeft most)) (spawned_at spent)
unfolding spawned_at
tells_spawned {most = most} spent bytes b =
    tells_then _ (tells_most spent bytes b)
    (λ n p. tells_as (λ gs q. (((n.1, subst (λ m. wide m bytes n.1) (sym q.0.0.1) p.0.0, q.0.0.0), q.0.1), q.1))
    (tells_each (maybe given) (AllLeft most) (entry_at n.0) (tells_entry n.0) n.0 [] tt n.1 p.1))
