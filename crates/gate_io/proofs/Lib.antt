mod SameFiles
