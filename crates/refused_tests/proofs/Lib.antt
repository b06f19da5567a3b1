mod Cells
