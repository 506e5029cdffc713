-- `take` moves the last of those that wait.
-- Assumes nothing.
use mathlib.Core.Path.{refl, sym, ap, ◌∙◌}
use Prim.Native.Nat.{◌-◌, ◌%◌}
use native.Mathlib.Numerals.{add-one}
use lib.ListN.{get_or, set}
use Rattle.std.specs.Prelude.{map}
use Rattle.std.proofs.lemmas.List.{map-set}
use Rattle.near_vans.specs.declared.front.WaitingVertex.{WaitingVertex}
use Rattle.near_vans.proofs.Places.{label_at, vertex_at}
use Rattle.near_vans.proofs.front.Front.take.Goals as goal

pub returns : goal.returns
returns c =
    let f = c.self.inside in
    rw (← c.self.view_is)
    (record {
      vertex_is = sym (vertex_at f.waiting c.args.i);
      at_is = λ j. set (set f.at (sym (vertex_at f.waiting (f.len - 1)) j % 4096) (add-one c.args.i j)) ((get_or f.waiting c.args.i (record { label = 0; vertex = 0 })).vertex % 4096) 255;
      labels_are = map-set (λ (w : WaitingVertex). w.label) f.waiting c.args.i _ ∙ ap (set (map (λ (w : WaitingVertex). w.label) f.waiting) c.args.i) (sym (label_at f.waiting (f.len - 1)));
      vertices_are = map-set (λ (w : WaitingVertex). w.vertex) f.waiting c.args.i _ ∙ ap (set (map (λ (w : WaitingVertex). w.vertex) f.waiting) c.args.i) (sym (vertex_at f.waiting (f.len - 1)));
      n_is = refl;
    })
